-- THE THEOREM OF READING: the relations that are read from the tally of some traces are, pair for pair, the rules' after step 8, in either
-- profile, and its events are theirs. However many traces there are; of them is assumed that their activities are below 64, which A makes sure.
use mathlib.Core.Path.{◌≡◌, sym, ap, ap₂, ◌∙◌}
use mathlib.Core.Bool.{Bool, true, false}
use mathlib.Core.List.{List, ◌++◌}
use Prim.Native.Nat.{ℕ, ◌-◌, ◌/◌, ◌%◌, ◌<◌}
use native.Mathlib.Omega.{arith}
use borrow.Author.Tests.{lt-ltb}
use lib.Dec.{T, ltb, lt→ltb}
use Rattle.sets.specs.Tests.{◌and◌, ◌or◌, non}
use Rattle.sets.specs.Members.{width, mem, some_below}
use Rattle.sets.specs.Rows.{Relation, in_row, rows_of, rows_for, turned}
use Rattle.sets.specs.declared.set.Set.{Set}
use Rattle.sets.proofs.Tests.{and_l, and_r, and_i, true-and, T-ext, T-eq}
use Rattle.sets.proofs.Tautologies.{by2, by3, by5}
use Rattle.sets.proofs.Below.{some-ext}
use Rattle.sets.proofs.Members.{those-ext, those-e, mem-those}
use Rattle.sets.proofs.RowLaws.{in-rows_of, rows_of-ext}
use Rattle.sets.proofs.TableLaws.{in-tables_of}
use Rattle.engine.specs.Relations.{Relations, tables_from}
use Rattle.rules.specs.declared.Profile.{Profile}
use Rattle.rules.specs.declared.Profile.TheVariants.{Full, Light}
use Rattle.rules.specs.Traces.{Traces}
use Rattle.rules.specs.Mining.{event, some_event, ◌with◌, ◌without◌, followed, between, alternates, let_in_between, makes_redundant, step6, step7, step8}
use Rattle.rules.specs.Mining.{step3, step4, step5, step9, step10, after_five, after_six, after_seven, after_eight, mined}
use Rattle.steps.specs.Rowwise.{absent, reduced_of}
use Rattle.tally.specs.Tallies.{table_count, tallied}
use Rattle.tally.proofs.Tallying.{unalternated-table_lem}
use Rattle.miner.specs.Stages.{responses_of, excludes_six, four_tables}
use Rattle.miner.proofs.EarlySteps.{events, chains-read, turned_rows, absent-rows}
use Rattle.miner.proofs.Exclusions.{first-too, never-read, excludes-six_lem, six-events}
use Rattle.miner.proofs.Losing.{where-so}
use Rattle.miner.proofs.PairForPair.{four-tables_lem, conditions-eight, responses-mined}
use Rattle.miner.proofs.AtEvents.{AgreeAt, conditions-at, responses-at, chains-at, never-at, alternating-at, excludes-six-at}
use Rattle.months.specs.Layout.{tally_width, first_row, rows_end, first_pair, row_set, pair_set, set_in}
use Rattle.months.specs.Tallies.{asked, held, tally_of}
use Rattle.months.specs.Readings.{tables_in, between_in, includers, includes_in, alternating, redundant_by, excluded, excludes_from}
use Rattle.months.specs.Readings.{relations_from}
use Rattle.months.proofs.Narrow.{narrowed-in}
use Rattle.months.proofs.Holding.{held-events, held-row, held-pair, table-asked, set-held}

-- a tally can hold all activities of the traces
abbrev pub Held : Traces → Type 0
Held L = (a : ℕ) → T (event L a) → a < tally_width

-- ---- tests alone

include-same : (t u i : Bool) (e f b : ℕ → Bool) → (t and (u and (i or some_below width (λ s. e s and (t and f s) and b s))))
    ≡ (u and t and (i or some_below width (λ s. e s and (f s and b s))))
unfolding ◌and◌ ◌or◌ non
include-same true u i e f b =
    ap (λ (x : Bool). u and (i or x)) (some-ext width _ _ (λ s l. by3 (λ x y z. x and (true and y) and z) (λ x y z. x and (y and z)) tt (e s) (f s) (b s)))
    ∙ by3 (λ x y z. x and (y or z)) (λ x y z. x and true and (y or z)) tt u i _
include-same false u i e f b = by2 (λ x y. false) (λ x y. x and false and y) tt u _

redundant-same : (es eu a x i l : Bool) → T es → (es and (eu and non (non a)) and (x and non i and non l)) ≡ (eu and (x and a and non i and non l))
unfolding ◌and◌ ◌or◌ non
redundant-same true eu a x i l t =
    by5 (λ eu a x i l. true and (eu and non (non a)) and (x and non i and non l)) (λ eu a x i l. eu and (x and a and non i and non l)) tt eu a x i l
redundant-same false eu a x i l t = absurd t

-- the tally of A and some traces, whatever stands after it
module _ (A : ℕ) (L : Traces) (low : Held L) (rest : List ℕ) where
  abbrev held_bytes : List ℕ
  held_bytes = tally_of A L ++ rest

  abbrev B : ℕ → ℕ → Set
  B = between_in held_bytes

  -- ---- what the tally gives

  pub events-held : set_in held_bytes 1 ≡ events L
  events-held =
      set-held L A rest 1 (omega arith) (omega arith)
      ∙ those-ext _ _ (λ x lx.
      ap (λ (b : Bool). ltb x tally_width and b) (held-events L 1 x (omega arith) (omega arith))
      ∙ T-ext (ltb x tally_width and event L x) (event L x) (λ t. and_r _ _ t) (λ t. and_i _ _ (lt→ltb x tally_width (low x t)) t))

  -- the tables agree with the mining tally at the events; more no stage asks
  tables-held : AgreeAt (events L) (tables_in held_bytes) (tallied L)
  tables-held k lk a x la lx ea ex =
      let na : a < tally_width = low a (those-e (event L) a ea).1 in
      let nx : x < tally_width = low x (those-e (event L) x ex).1 in
      let before-end : row_set k a < rows_end = omega arith in
      let table : (row_set k a - first_row) / tally_width ≡ k = omega arith in
      let row : (row_set k a - first_row) % tally_width ≡ a = omega arith in
      in-tables_of table_count (λ j b y. ltb b tally_width and mem (set_in held_bytes (row_set j b)) y) k a x lk la lx
      ∙ ap (λ (t : Bool). t and mem (set_in held_bytes (row_set k a)) x) (lt-ltb a tally_width na)
      ∙ true-and _
      ∙ ap (λ (s : Set). mem s x) (set-held L A rest (row_set k a) (omega arith) (omega arith))
      ∙ narrowed-in (held L (row_set k a)) x nx
      ∙ held-row L (row_set k a) x (omega arith) before-end
      ∙ ap₂ (λ (m n : ℕ). asked L m n x) table row
      ∙ sym (ap (λ (rows : List ℕ). in_row rows a x) (table-asked L k lk) ∙ in-rows_of (asked L k) a x la lx)

  -- of three events
  between-held : (u s v : ℕ) → T (event L u) → T (event L s) → T (event L v) → mem (B u s) v ≡ between L u v s
  between-held u s v eu es ev =
      let lu : u < tally_width = low u eu in
      let ls : s < tally_width = low s es in
      let first : (pair_set u s - first_pair) / tally_width ≡ u = omega arith in
      let second : (pair_set u s - first_pair) % tally_width ≡ s = omega arith in
      ap (λ (x : Set). mem x v) (set-held L A rest (pair_set u s) (omega arith) (omega arith))
      ∙ narrowed-in (held L (pair_set u s)) v (low v ev)
      ∙ held-pair L (pair_set u s) v (omega arith)
      ∙ ap₂ (λ (m n : ℕ). between L m v n) first second

  -- ---- step 6

  abbrev chained-by : Relation
  chained-by t u = (after_five L).includes u t

  abbrev never : Relation
  never s t = event L s and (event L t and non (followed L s t))

  include-pair : (u t : ℕ) → u < width → t < width
      → turned (rows_for (events L) (includers (events L) (rows_of chained-by) (rows_of (turned (rows_of never))) B)) u t ≡ (after_six L Full).includes u t
  unfolding turned rows_for includers after_six step6 ◌with◌ some_event
  include-pair u t lu lt =
      in-rows_of (λ a b. mem (events L) a and includers (events L) (rows_of chained-by) (rows_of (turned (rows_of never))) B a b) t u lt lu
      ∙ ap₂ (λ (x y : Bool). x and (y and (in_row (rows_of chained-by) t u
      or some_below width (λ s. in_row (rows_of (turned (rows_of never))) t s and mem (B s t) u)))) (mem-those (event L) t lt) (mem-those (event L) u lu)
      ∙ where-so (event L t) _ _ (λ et. where-so (event L u) _ _ (λ eu.
      ap₂ ◌or◌ (in-rows_of chained-by t u lt lu)
      (some-ext width _ _ (λ s ls.
      ap (λ (b : Bool). b and mem (B s t) u) (in-rows_of (turned (rows_of never)) t s lt ls ∙ in-rows_of never s t ls lt)
      ∙ where-so (never s t) _ _ (λ g. between-held s t u (and_l _ _ g) et eu)))))
      ∙ include-same (event L t) (event L u) ((after_five L).includes u t) (event L) (λ s. non (followed L s t)) (λ s. between L s u t)

  includes-held : (p : Profile) → includes_in p (events L) (tallied L) B ≡ rows_of (after_six L p).includes
  unfolding after_six
  includes-held Full =
      (λ i. rows_of (turned (rows_for (events L) (includers (events L) (chains-read L i) (rows_of (turned (never-read L i))) B))))
      ∙ rows_of-ext _ (after_six L Full).includes include-pair
  includes-held Light = ap (λ (rows : List ℕ). rows_of (turned rows)) (chains-read L) ∙ turned_rows chained-by

  -- nothing but an event includes anything
  includes-events : (p : Profile) (v x : ℕ) → T ((after_six L p).includes v x) → T (event L v)
  unfolding after_six step6 after_five step5 step4 step3 ◌with◌
  includes-events Full v x t = and_l _ _ (and_l _ _ t)
  includes-events Light v x t = and_l _ _ (and_l _ _ t)

  -- ---- step 7

  alternating-held : alternating (events L) (tallied L) ≡ rows_of (λ s u. event L s and (event L u and non (non (alternates L u s))))
  alternating-held =
      ap (λ (rows : List ℕ). rows_for (events L) (absent (events L) rows)) (unalternated-table_lem L) ∙ absent-rows (event L) (λ s u. non (alternates L u s))

  module _ (p : Profile) where
    abbrev six : Relations
    six = after_six L p

    let-in-held : (u s x : ℕ) → x < width → T (event L u) → T (event L s)
        → some_below width (λ v. mem (B u s) v and in_row (rows_of six.includes) v x) ≡ let_in_between L six u s x
    unfolding let_in_between some_event
    let-in-held u s x lx eu es =
        some-ext width _ _ (λ v lv.
        ap (λ (b : Bool). mem (B u s) v and b) (in-rows_of six.includes v x lv lx)
        ∙ T-ext (mem (B u s) v and six.includes v x) (event L v and (between L u v s and six.includes v x))
        (λ t.
        let ev = includes-events p v x (and_r _ _ t) in
        and_i _ _ ev (and_i _ _ (T-eq (between-held u s v eu es ev) (and_l _ _ t)) (and_r _ _ t)))
        (λ t.
        let both = and_r _ _ t in
        and_i _ _ (T-eq (sym (between-held u s v eu es (and_l _ _ t))) (and_l _ _ both)) (and_r _ _ both)))

    redundant-held : (u s x : ℕ) → u < width → s < width → x < width → T (event L s)
        → (in_row (rows_of (λ a b. event L a and (event L b and non (non (alternates L b a))))) s u
        and redundant_by (rows_of six.includes) (rows_of six.excludes) B u s x) ≡ (event L u and makes_redundant L six u s x)
    unfolding redundant_by makes_redundant
    redundant-held u s x lu ls lx es =
        ap (λ (b : Bool). b and redundant_by (rows_of six.includes) (rows_of six.excludes) B u s x)
        (in-rows_of (λ a b. event L a and (event L b and non (non (alternates L b a)))) s u ls lu)
        ∙ where-so (event L s and (event L u and non (non (alternates L u s)))) _ _ (λ g.
        let eu = and_l _ _ (and_r _ _ g) in
        λ i. in-rows_of six.excludes u x lu lx i and non (in-rows_of six.includes u x lu lx i) and non (let-in-held u s x lx eu es i))
        ∙ redundant-same (event L s) (event L u) (alternates L u s) (six.excludes u x) (six.includes u x) (let_in_between L six u s x) es

    excludes-held : excludes_from (events L) (tallied L) (rows_of six.includes) (excludes_six p (events L) (tallied L)) B
        ≡ rows_of (after_seven L p).excludes
    unfolding rows_for excluded after_seven step7 ◌without◌ some_event
    excludes-held =
        (λ i. rows_for (events L) (excluded (alternating-held i) (rows_of six.includes) (excludes-six_lem L p i) B))
        ∙ rows_of-ext _ _ (λ s x ls lx.
        ap₂ (λ (a b : Bool). a and (b and non (some_below width (λ u.
        in_row (rows_of (λ a b. event L a and (event L b and non (non (alternates L b a))))) s u
        and redundant_by (rows_of six.includes) (rows_of six.excludes) B u s x))))
        (mem-those (event L) s ls) (in-rows_of six.excludes s x ls lx)
        ∙ first-too (event L s) (event L x) (six.excludes s x) _ (six-events L p s x)
        ∙ where-so (six.excludes s x) _ _
        (λ h. ap non (some-ext width _ _ (λ u lu. redundant-held u s x lu ls lx (and_l _ _ (and_l _ _ (T-eq (six-events L p s x) h)))))))

    -- ---- all of them

    responses-held : rows_for (events L) (reduced_of (responses_of (events L) (tallied L))) ≡ rows_of (after_eight L p).responses
    responses-held = unfold mined step10 step9 in responses-mined L p

    -- at the events, so as if the tables were the mining tally's
    includes-at : (q : Profile) → includes_in q (events L) (tables_in held_bytes) B ≡ includes_in q (events L) (tallied L) B
    includes-at Full =
        λ i. rows_of (turned (rows_for (events L) (includers (events L) (chains-at (events L) _ _ tables-held i)
        (rows_of (turned (never-at (events L) _ _ tables-held i))) B)))
    includes-at Light = λ i. rows_of (turned (chains-at (events L) _ _ tables-held i))

    at-events : relations_from (events L) (tables_in held_bytes) B p ≡ relations_from (events L) (tallied L) B p
    at-events i =
        four_tables
        (rows_for (events L) (reduced_of (conditions-at (events L) _ _ tables-held i)))
        (rows_for (events L) (reduced_of (responses-at (events L) _ _ tables-held i)))
        (includes-at p i)
        (rows_for (events L) (excluded (alternating-at (events L) _ _ tables-held i) (includes-at p i) (excludes-six-at (events L) _ _ tables-held p i) B))

    pub relations-held : relations_from (set_in held_bytes 1) (tables_in held_bytes) (between_in held_bytes) p ≡ tables_from (after_eight L p)
    unfolding after_eight step8 after_seven step7
    relations-held =
        ap (λ (e : Set). relations_from e (tables_in held_bytes) B p) events-held
        ∙ at-events
        ∙ (λ i.
        four_tables (conditions-eight L p i) (responses-held i) (includes-held p i)
        (excludes_from (events L) (tallied L) (includes-held p i) (excludes_six p (events L) (tallied L)) B))
        ∙ ap (four_tables (rows_of (λ t s. (after_eight L p).conditions s t)) (rows_of (after_eight L p).responses) (rows_of (after_eight L p).includes))
        excludes-held
        ∙ four-tables_lem (after_eight L p)

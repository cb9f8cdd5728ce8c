-- What the calls of a stage of mining ensure, put together. Tables are a place to hold rows: what is put into one of them stands there until
-- something else is put there, and the others stay. Assumes nothing.
use mathlib.Core.Path.{◌≡◌, refl, sym, ap, ◌∙◌, ap₂, subst}
use mathlib.Core.Bool.{true, false, Bool}
use mathlib.Core.List.{List, []}
use Prim.Native.Nat.{ℕ, zero, suc, ◌*◌, ◌≤◌, ◌<◌}
use native.Mathlib.Nat.{not-suc-le-zero, le_of_suc-le-suc}
use native.Mathlib.Omega.{arith}
use borrow.Author.Tests.{eqb-false, ltb-true}
use lib.Arith.{lt_of_le-ne}
use lib.Dec.{eqb, eqb→eq, ltb}
use lib.ListN.{length, length-replicate}
use Rattle.sets.specs.Members.{width, mem, those, some_below}
use Rattle.sets.specs.Rows.{row_words, no_rows, row_at, with_row, Relation, in_row, rows_of, rows_for, turned}
use Rattle.sets.specs.Tables.{no_tables, table_at, with_rows_in, with_table}
use Rattle.sets.specs.Tests.{◌and◌, non}
use Rattle.sets.specs.declared.set.Set.{Set}
use Rattle.sets.proofs.Tests.{eqb_of, split, either}
use Rattle.sets.proofs.RowLaws.{rows_ext, row-put-same, row-put-other, in-rows_of, rows_of-ext, length-rows_of}
use Rattle.sets.proofs.TableLaws.{table-put-same, table-put-other, length-rows-in, row-taken, tables-ext, length-table}
use Rattle.engine.specs.Relations.{relation_count, head_of, graph_of, in_tables}
use Rattle.engine.specs.Markings.{opening_of}
use Rattle.engine.specs.declared.marking.State.{State}
use Rattle.engine.specs.declared.marking.Marking.{Marking}
use Rattle.engine.specs.Enabled.{marked, graph_at}
use Rattle.rules.specs.declared.Profile.{Profile}
use Rattle.rules.specs.declared.Profile.TheVariants.{Full, Light}
use Rattle.rules.specs.Traces.{Traces}
use Rattle.steps.specs.Rowwise.{excluders, in_either, reduced_of, waited}
use Rattle.tally.specs.Passes.{event_in, cut}
use Rattle.tally.specs.Tallies.{tallied_for, before_table, later_table}
use Rattle.tally.proofs.Folds.{forward-rows_of, through-rows_of}
use Rattle.miner.specs.Stages.{four_tables, conditions_of, chains_of, responses_of, never_of, five_of, followers_of, redundant_by, seven_from}
use Rattle.miner.specs.Stages.{includes_in, excludes_six, waited_in, ahead_of, missed_of, tables_in, graph_found_in}
use Rattle.miner.specs.Facts.{Less, let_in}

module _ (tables : List ℕ) (k : ℕ) (rows : List ℕ) where
  put-length : length (with_table tables k rows) ≡ length tables
  put-length = length-rows-in tables k rows width

  others : (m j : ℕ) → (j ≡ k → ⊥) → table_at (with_rows_in tables k rows m) j ≡ table_at tables j
  unfolding with_rows_in
  others zero j n = refl
  others (suc m) j n = table-put-other (with_rows_in tables k rows m) k m (row_at rows m) j n ∙ others m j n

  module _ (n : ℕ) (h : length tables ≡ n * row_words) (l : k < n) where
    there : (m : ℕ) → m ≤ width → (a : ℕ) → a < m → row_at (table_at (with_rows_in tables k rows m) k) a ≡ row_at rows a
    unfolding with_rows_in
    there zero lm a la = absurd (not-suc-le-zero la)
    there (suc m) lm a la =
        let held = with_rows_in tables k rows m in
        let long : length (table_at held k) ≡ row_words = length-table n held k (length-rows-in tables k rows m ∙ h) l in
        ap (λ (x : List ℕ). row_at x a) (table-put-same held k m (row_at rows m))
        ∙ either (split (eqb a m))
        (λ t.
        let same : a ≡ m = eqb→eq a m t in
        ap (row_at (with_row (table_at held k) m (row_at rows m))) same
        ∙ row-put-same (table_at held k) m (row_at rows m) lm long
        ∙ ap (row_at rows) (sym same))
        (λ f. row-put-other (table_at held k) m (row_at rows m) a (λ q. f (eqb_of q))
        ∙ there m (omega arith) a (lt_of_le-ne (le_of_suc-le-suc la) (λ q. f (eqb_of q))))

    put_same : length rows ≡ row_words → table_at (with_table tables k rows) k ≡ rows
    put_same hr = rows_ext _ rows (length-table n (with_table tables k rows) k (put-length ∙ h) l) hr (there width (omega arith))

pub put-long : (t t' : List ℕ) (k : ℕ) (rows : List ℕ) → t' ≡ with_table t k rows → length t' ≡ length t
put-long t t' k rows e = ap length e ∙ put-length t k rows

-- the rows that are taken out of a table
pub taken-from : (t : List ℕ) (k : ℕ) (rows : List ℕ) → table_at t k ≡ rows → length rows ≡ row_words → with_table no_rows 0 (table_at t k) ≡ rows
taken-from t k rows h hl =
    ap (with_table no_rows 0) h
    ∙ rows_ext (with_table no_rows 0 rows) rows (put-length no_rows 0 rows ∙ length-replicate {A = ℕ} row_words 0) hl (row-taken rows)

-- four tables that hold these rows
pub record Held (t c r i x : List ℕ) : Type 0 where
  pub long : length t ≡ relation_count * row_words
  pub conditions : table_at t 0 ≡ c
  pub responses : table_at t 1 ≡ r
  pub includes : table_at t 2 ≡ i
  pub excludes : table_at t 3 ≡ x

pub held_any : (t : List ℕ) → length t ≡ relation_count * row_words → Held t (table_at t 0) (table_at t 1) (table_at t 2) (table_at t 3)
held_any t h = record { long = h; conditions = refl; responses = refl; includes = refl; excludes = refl }

module _ (t c r i x t' rows : List ℕ) (h : Held t c r i x) (hr : length rows ≡ row_words) where
  kept : (k : ℕ) → t' ≡ with_table t k rows → (j : ℕ) → eqb j k ≡ false → (old : List ℕ) → table_at t j ≡ old → table_at t' j ≡ old
  kept k e j n old o = ap (λ (y : List ℕ). table_at y j) e ∙ others t k rows width j (eqb-false j k n) ∙ o

  new : (k : ℕ) → ltb k relation_count ≡ true → t' ≡ with_table t k rows → table_at t' k ≡ rows
  new k l e = ap (λ (y : List ℕ). table_at y k) e ∙ put_same t k rows relation_count h.long (ltb-true k relation_count l) hr

  still : (k : ℕ) → t' ≡ with_table t k rows → length t' ≡ relation_count * row_words
  still k e = put-long t t' k rows e ∙ h.long

  pub held-c : t' ≡ with_table t 0 rows → Held t' rows r i x
  held-c e = search (still, new, kept)

  pub held-r : t' ≡ with_table t 1 rows → Held t' c rows i x
  held-r e = search (still, new, kept)

  pub held-i : t' ≡ with_table t 2 rows → Held t' c r rows x
  held-i e = search (still, new, kept)

  pub held_x : t' ≡ with_table t 3 rows → Held t' c r i rows
  held_x e = search (still, new, kept)

-- they are known by what they hold
module _ (c r i x : List ℕ) (lc : length c ≡ row_words) (lr : length r ≡ row_words) (li : length i ≡ row_words) (lx : length x ≡ row_words) where
  pub held-four : Held (four_tables c r i x) c r i x
  held-four =
      let start = held_any (no_tables relation_count) (length-replicate {A = ℕ} (relation_count * row_words) 0) in
      held_x _ _ _ _ _ _ x
      (held-i _ _ _ _ _ _ i (held-r _ _ _ _ _ _ r (held-c _ _ _ _ _ _ c start lc refl) lr refl) li refl)
      lx refl

  pub held-is : (t : List ℕ) → Held t c r i x → t ≡ four_tables c r i x
  held-is t h = tables-ext relation_count t (four_tables c r i x) h.long held-four.long same
    where
      same : (k : ℕ) → k < relation_count → table_at t k ≡ table_at (four_tables c r i x) k
      same zero l = h.conditions ∙ sym held-four.conditions
      same (suc zero) l = h.responses ∙ sym held-four.responses
      same (suc (suc zero)) l = h.includes ∙ sym held-four.includes
      same (suc (suc (suc zero))) l = h.excludes ∙ sym held-four.excludes
      same (suc (suc (suc (suc k)))) l = absurd (omega arith)

-- step 7: what is left of the excludes
pub seven-by : (L : Traces) (events : Set) (tally t left₀ left t' : List ℕ) → left₀ ≡ with_table no_rows 0 (table_at t 3)
    → Less left₀ (λ s x. some_below width (λ u. mem events u
    and redundant_by tally (followers_of events tally) (table_at t 2) (table_at t 3) L u s x)) left
    → t' ≡ with_table t 3 left → (r : Relation) → table_at t 3 ≡ rows_of r
    → t' ≡ with_table t 3 (seven_from events tally (table_at t 2) (table_at t 3) L)
seven-by L events tally t left₀ left t' h₀ l h r hr =
    h
    ∙ ap (with_table t 3)
    (l r (h₀ ∙ taken-from t 3 (rows_of r) hr (length-rows_of r))
    ∙ rows_of-ext _ _ (λ s x ls lx. ap (λ (b : Bool). b and non (some_below width (λ u. mem events u
    and redundant_by tally (followers_of events tally) (table_at t 2) (table_at t 3) L u s x)))
    (sym (ap (λ (rows : List ℕ). in_row rows s x) hr ∙ in-rows_of r s x ls lx))))

-- ---- the rows of a stage are rows of the width

length-for : (events : Set) (r : ℕ → ℕ → Bool) → length (rows_for events r) ≡ row_words
unfolding rows_for
length-for events r = length-rows_of _

module _ (wide : Bool) (L : Traces) (events : Set) (tally : List ℕ) where
  length-includes : (p : Profile) → length (includes_in wide p events tally L) ≡ row_words
  length-includes Full =
      ap length (through-rows_of (cut wide (let_in (never_of events tally))) _ (λ r σ. forward-rows_of (cut wide (let_in (never_of events tally))) r [] σ)
      (turned (chains_of events tally)) L) ∙ length-rows_of _
  length-includes Light = length-rows_of _

  -- the excludes after step 6 are some relation's rows
  excludes-some : (p : Profile) → (r : Relation) × (excludes_six p events tally ≡ rows_of r)
  unfolding rows_for
  excludes-some Full = ((λ a x. mem events a and in_either (five_of events tally) (never_of events tally) a x), refl)
  excludes-some Light = (_, refl)

  -- ---- the tables after step 8
  module _ (p : Profile) where
    abbrev eight_of : List ℕ
    eight_of = rows_for events (reduced_of (conditions_of events tally))

    abbrev answers_of : List ℕ
    answers_of = rows_for events (reduced_of (responses_of events tally))

    abbrev after_seven : List ℕ
    after_seven = seven_from events tally (includes_in wide p events tally L) (excludes_six p events tally) L

    pub eight-from : (t t₁ t₂ t₃ t₄ t₅ : List ℕ) → t₁ ≡ with_table t 2 (includes_in wide p events tally L) → t₂ ≡ with_table t₁ 3 (excludes_six p events tally)
        → ((r : Relation) → table_at t₂ 3 ≡ rows_of r → t₃ ≡ with_table t₂ 3 (seven_from events tally (table_at t₂ 2) (table_at t₂ 3) L))
        → t₄ ≡ with_table t₃ 0 eight_of → t₅ ≡ with_table t₄ 1 answers_of
        → length t ≡ relation_count * row_words → t₅ ≡ four_tables eight_of answers_of (includes_in wide p events tally L) after_seven
    eight-from t t₁ t₂ t₃ t₄ t₅ h₁ h₂ h₃ h₄ h₅ long =
        let rows = excludes-some p in
        let included = held-i _ _ _ _ _ t₁ _ (held_any t long) (length-includes p) h₁ in
        let six = held_x _ _ _ _ _ t₂ _ included (ap length rows.1 ∙ length-rows_of _) h₂ in
        let seven = held_x _ _ _ _ _ t₃ after_seven six (length-rows_of _)
        (h₃ rows.0 (six.excludes ∙ rows.1) ∙ ap₂ (λ (i x : List ℕ). with_table t₂ 3 (seven_from events tally i x L)) six.includes six.excludes) in
        let eight = held-c _ _ _ _ _ t₄ _ seven (length-for events _) h₄ in
        held-is _ _ _ _ (length-for events _) (length-for events _) (length-includes p) (length-rows_of _) t₅
        (held-r _ _ _ _ _ t₅ _ eight (length-for events _) h₅)

    -- the same by the excludes of steps 1 to 5 as they are made, by target, and of whatever tables step 6 leaves
    abbrev excluded_of : List ℕ
    excluded_of = rows_for events (excluders events (table_at tally before_table) (table_at tally later_table) (chains_of events tally))

    pub eight-by : (t t₁ t₂ t₃ t₄ t₅ t₆ t₇ : List ℕ) → t₁ ≡ with_table t 2 (rows_of (turned (chains_of events tally)))
        → t₂ ≡ with_table t₁ 3 excluded_of → t₃ ≡ with_table t₂ 3 (rows_of (turned (with_table no_rows 0 (table_at t₂ 3))))
        → length t₄ ≡ length t₃
        → (length t₃ ≡ relation_count * row_words → table_at t₃ 2 ≡ includes_in wide Light events tally L → table_at t₄ 2 ≡ includes_in wide p events tally L)
        → (length t₃ ≡ relation_count * row_words → table_at t₃ 2 ≡ includes_in wide Light events tally L
        → table_at t₃ 3 ≡ excludes_six Light events tally → table_at t₄ 3 ≡ excludes_six p events tally)
        → ((r : Relation) → table_at t₄ 3 ≡ rows_of r → t₅ ≡ with_table t₄ 3 (seven_from events tally (table_at t₄ 2) (table_at t₄ 3) L))
        → t₆ ≡ with_table t₅ 0 eight_of → t₇ ≡ with_table t₆ 1 answers_of
        → length t ≡ relation_count * row_words → t₇ ≡ four_tables eight_of answers_of (includes_in wide p events tally L) after_seven
    eight-by t t₁ t₂ t₃ t₄ t₅ t₆ t₇ h₁ h₂ h₃ l₄ i₄ x₄ h₅ h₆ h₇ long =
        let three = held-i _ _ _ _ _ t₁ _ (held_any t long) (length-rows_of _) h₁ in
        let excluded = held_x _ _ _ _ _ t₂ _ three (length-for events _) h₂ in
        let five = held_x _ _ _ _ _ t₃ (five_of events tally) excluded (length-rows_of _)
        (h₃ ∙ ap (λ (x : List ℕ). with_table t₂ 3 (rows_of (turned x))) (taken-from t₂ 3 excluded_of excluded.excludes (length-for events _))) in
        let six : Held t₄ (table_at t₄ 0) (table_at t₄ 1) (includes_in wide p events tally L) (excludes_six p events tally) = record {
          long = l₄ ∙ five.long;
          conditions = refl;
          responses = refl;
          includes = i₄ five.long five.includes;
          excludes = x₄ five.long five.includes five.excludes;
        } in
        let seven = held_x _ _ _ _ _ t₅ after_seven six (length-rows_of _)
        (h₅ (excludes-some p).0 (six.excludes ∙ (excludes-some p).1)
        ∙ ap₂ (λ (i x : List ℕ). with_table t₄ 3 (seven_from events tally i x L)) six.includes six.excludes) in
        let eight = held-c _ _ _ _ _ t₆ _ seven (length-for events _) h₆ in
        held-is _ _ _ _ (length-for events _) (length-for events _) (length-includes p) (length-rows_of _) t₇
        (held-r _ _ _ _ _ t₇ _ eight (length-for events _) h₇)

-- steps 9 and 10, and the head
module _ (wide : Bool) (A : ℕ) (L : Traces) (p : Profile) (events : Set) (t t₁ t₂ t₃ : List ℕ) (s : State) (opening : Marking) where
  abbrev eight : List ℕ
  eight = eight_of wide L events (tallied_for wide L) p

  abbrev included : List ℕ
  included = includes_in wide p events (tallied_for wide L) L

  abbrev excluding : List ℕ
  excluding = after_seven wide L events (tallied_for wide L) p

  abbrev nine_from : List ℕ → List ℕ → List ℕ → List ℕ
  nine_from c i x =
      rows_for events
      (waited events c (ahead_of wide no_rows L) (missed_of wide events i x no_rows L))

  pub found-by : events ≡ those (event_in wide L)
      → (length t ≡ relation_count * row_words → t₁ ≡ four_tables eight (answers_of wide L events (tallied_for wide L) p) included excluding)
      → t₂ ≡ with_table t₁ 0
      (nine_from (with_table no_rows 0 (table_at t₁ 0)) (table_at t₁ 2) (table_at t₁ 3))
      → t₃ ≡ with_table t₂ 0 (rows_for events (reduced_of (with_table no_rows 0 (table_at t₂ 0))))
      → t ≡ no_tables relation_count → s ≡ opening_of events → opening ≡ marked events (in_tables t₃) s → graph_of (head_of A events opening) t₃ ≡ graph_found_in wide A L p
  unfolding graph_found_in
  found-by hv h₁ h₂ h₃ h₀ hs ho =
      let four = held-four _ _ _ _ (length-for events _) (length-for events _) (length-includes wide L events (tallied_for wide L) p) (length-rows_of _) in
      let is = h₁ (ap length h₀ ∙ length-replicate {A = ℕ} (relation_count * row_words) 0) in
      let one : Held t₁ eight (answers_of wide L events (tallied_for wide L) p) included excluding = subst (λ (x : List ℕ). Held x eight
      (answers_of wide L events (tallied_for wide L) p) included excluding) (sym is) four in
      let nine = held-c _ _ _ _ _ t₂ (nine_from eight included excluding) one (length-for events _)
      (h₂
      ∙ (λ i. with_table t₁ 0 (nine_from (taken-from t₁ 0 eight one.conditions (length-for events _) i) (one.includes i)
      (one.excludes i)))) in
      let ten = held-c _ _ _ _ _ t₃ (waited_in wide events eight included excluding L) nine (length-for events _)
      (h₃ ∙ ap (λ (x : List ℕ). with_table t₂ 0 (rows_for events (reduced_of x)))
      (taken-from t₂ 0 _ nine.conditions (length-for events _))) in
      let all = held-is _ _ _ _ (length-for events _) (length-for events _) (length-includes wide L events (tallied_for wide L) p) (length-rows_of _) t₃ ten in
      (λ i. graph_of (head_of A events (ho i)) t₃)
      ∙ (λ i. graph_at A events (hs i) (all i))
      ∙ ap (λ (v : Set). graph_at A v (opening_of v) (tables_in wide L v (tallied_for wide L) p)) hv

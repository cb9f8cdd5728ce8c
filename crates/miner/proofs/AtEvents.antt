-- The stages of mining ask a tally at events alone: two tallies that agree there give the same rows. So who fills a tally may leave out what
-- no event asks, as a pass over the half of the width where all events are, or a tally that is kept in narrower sets; and a log is mined the same
-- in the form of its A, which holds every event. Assumes nothing.
use mathlib.Core.Path.{◌≡◌, sym, ap, ap₂, ◌∙◌, refl}
use mathlib.Core.Bool.{Bool, true, false}
use mathlib.Core.List.{List, []}
use Prim.Native.Nat.{ℕ, ◌<◌}
use native.Mathlib.Omega.{arith}
use borrow.Author.Tests.{lt-ltb, ltb-false}
use lib.Dec.{T, eqb, ltb}
use Rattle.sets.specs.Tests.{◌and◌, ◌or◌, non}
use Rattle.sets.specs.Members.{width, mem, some_below, word, those}
use Rattle.sets.specs.Rows.{Relation, row_at, in_row, rows_of, rows_for, turned, no_rows}
use Rattle.sets.specs.Tables.{table_at}
use Rattle.sets.specs.declared.set.Set.{Set}
use Rattle.sets.proofs.Tests.{and_l, and_r, or-e, and_comm, and_assoc, T-eq, either, T-ext, T→true, true→T, and_i}
use Rattle.sets.proofs.Below.{some-ext}
use Rattle.sets.proofs.Members.{those-i, mem-those, those-ext}
use Rattle.sets.proofs.RowLaws.{in-rows_of, rows_of-ext}
use Rattle.engine.specs.Markings.{opening_of}
use Rattle.engine.specs.Enabled.{graph_at}
use Rattle.rules.specs.declared.Profile.{Profile}
use Rattle.rules.specs.declared.Profile.TheVariants.{Full, Light}
use Rattle.rules.specs.Traces.{Traces}
use Rattle.rules.specs.Mining.{event}
use Rattle.rules.specs.Replays.{Accepted}
use Rattle.rules.proofs.LogLaws.{place-event, rest-event}
use Rattle.rules.proofs.Places.{some-trace_lem, some-place}
use Rattle.steps.specs.Rowwise.{unbroken, absent, excludes_itself, smallest, apart, closing, excluders, in_either, reduced_of, waited}
use Rattle.steps.proofs.Sources.{smallest-as}
use Rattle.tally.specs.Passes.{gains, forward, Fact, gains_in, through, reaches, event_in, cut}
use Rattle.tally.specs.Tallies.{table_count, before_table, later_table, unpreceded_table, unanswered_table, unchained_table, unalternated_table}
use Rattle.tally.specs.Tallies.{followed_table, tallied, tallied_for}
use Rattle.tally.proofs.Folds.{heard, forward-rows_of, through-rows_of, heard-in, heard-cut, formed, forward-in, through-all}
use Rattle.tally.proofs.Tallying.{form-agrees}
use Rattle.miner.specs.Facts.{let_in, reopened, doubted, before_first, missed}
use Rattle.miner.specs.Stages.{conditions_of, chains_of, responses_of, never_of, five_from, five_of, includes_from, includes_six, excludes_six}
use Rattle.miner.specs.Stages.{followers_of, redundant_by, seven_from, waited_of, four_tables, tables_after_six, tables_read, includes_in, waited_in}
use Rattle.miner.specs.Stages.{tables_in, graph_found, graph_found_in}
use Rattle.miner.proofs.Losing.{where-so}
use Rattle.miner.proofs.EarlySteps.{events}

-- ---- rows that agree at the members of a set

abbrev pub AgreeIn : Set → List ℕ → List ℕ → Type 0
AgreeIn events rows rows' =
    (a x : ℕ) → a < width → x < width → T (mem events a) → T (mem events x) → in_row rows a x ≡ in_row rows' a x

-- the same of all tables of two tallies
abbrev pub AgreeAt : Set → List ℕ → List ℕ → Type 0
AgreeAt events tally tally' = (k : ℕ) → k < table_count → AgreeIn events (table_at tally k) (table_at tally' k)

-- rows of members alone
abbrev pub Inside : Set → List ℕ → Type 0
Inside events rows = (a x : ℕ) → a < width → x < width → T (in_row rows a x) → T (mem events a)

module _ (events : Set) where
  module _ (rows rows' : List ℕ) (same : AgreeIn events rows rows') where
    unbroken-as : rows_for events (unbroken events rows) ≡ rows_for events (unbroken events rows')
    unfolding rows_for unbroken
    unbroken-as =
        rows_of-ext _ _ (λ a x la lx. where-so (mem events a) _ _ (λ ta. where-so (mem events x and non (eqb x a)) _ _
        (λ t. ap non (same a x la lx ta (and_l _ _ t)))))

    absent-as : rows_for events (absent events rows) ≡ rows_for events (absent events rows')
    unfolding rows_for absent
    absent-as =
        rows_of-ext _ _ (λ a x la lx. where-so (mem events a) _ _ (λ ta. where-so (mem events x) _ _ (λ tx. ap non (same a x la lx ta tx))))

  -- ---- steps 1 to 5
  module _ (before before' later later' : List ℕ) (hb : AgreeIn events before before') (hl : AgreeIn events later later') where
    apart-as : (t : ℕ) → t < width → T (mem events t) → (s : ℕ) → s < width → apart events before later t s ≡ apart events before' later' t s
    unfolding apart
    apart-as t lt et s ls =
        where-so (mem events s and non (eqb s t)) _ _
        (λ k. ap₂ (λ (b c : Bool). non (b or c)) (hb t s lt ls et (and_l _ _ k)) (hl t s lt ls et (and_l _ _ k)))

    closing-as : (itself : Bool) (s : ℕ) → s < width → T (mem events s) → (t : ℕ) → t < width
        → closing events itself before later s t ≡ closing events itself before' later' s t
    unfolding closing
    closing-as itself s ls es t lt =
        ap (λ (b : Bool). b and non itself)
        (and_assoc _ _ _ ∙ where-so (mem events t) _ _ (λ et. ap₂ (λ (b c : Bool). b and non c) (hl s t ls lt es et) (hb s t ls lt es et))
        ∙ sym (and_assoc _ _ _))

    excluders-as : (chains : List ℕ) → rows_for events (excluders events before later chains) ≡ rows_for events (excluders events before' later' chains)
    unfolding rows_for excluders excludes_itself
    excluders-as chains = rows_of-ext _ _ (λ t s lt ls. where-so (mem events t) _ _ (at t s lt ls))
      where
        at : (t s : ℕ) → t < width → s < width → T (mem events t) → excluders events before later chains t s ≡ excluders events before' later' chains t s
        at t s lt ls et =
            let itself : excludes_itself before chains t ≡ excludes_itself before' chains t =
            ap (λ (b : Bool). non b or some_below width (λ u. in_row chains t u)) (hb t t lt lt et et) in
            (λ i. itself i and eqb s t or smallest-as _ _ (apart-as t lt et) s ls i
            or (ap (λ (b : Bool). smallest (closing events b before later t) s) itself
            ∙ smallest-as _ _ (closing-as (excludes_itself before' chains t) t lt et) s ls) i)

-- ---- the stages

module _ (events : Set) (tally tally' : List ℕ) (same : AgreeAt events tally tally') where
  pub conditions-at : conditions_of events tally ≡ conditions_of events tally'
  conditions-at = unbroken-as events _ _ (same unpreceded_table (omega arith))

  pub chains-at : chains_of events tally ≡ chains_of events tally'
  chains-at = unbroken-as events _ _ (same unchained_table (omega arith))

  pub responses-at : responses_of events tally ≡ responses_of events tally'
  responses-at = unbroken-as events _ _ (same unanswered_table (omega arith))

  pub never-at : never_of events tally ≡ never_of events tally'
  never-at = absent-as events _ _ (same followed_table (omega arith))

  -- row s: the events that alternately precede s
  pub alternating-at : rows_for events (absent events (table_at tally unalternated_table)) ≡ rows_for events (absent events (table_at tally' unalternated_table))
  alternating-at = absent-as events _ _ (same unalternated_table (omega arith))

  pub five-at : five_of events tally ≡ five_of events tally'
  five-at =
      ap (λ (rows : List ℕ). rows_of (turned rows))
      (excluders-as events _ _ _ _ (same before_table (omega arith)) (same later_table (omega arith)) (chains_of events tally))
      ∙ ap (five_from events tally') chains-at

  pub excludes-six-at : (p : Profile) → excludes_six p events tally ≡ excludes_six p events tally'
  excludes-six-at Full = ap₂ (λ (x y : List ℕ). rows_for events (in_either x y)) five-at never-at
  excludes-six-at Light = five-at

  pub includes-six-at : (p : Profile) (L : Traces) → includes_six p events tally L ≡ includes_six p events tally' L
  includes-six-at Full L = ap₂ (λ (x y : List ℕ). includes_from x y L) chains-at never-at
  includes-six-at Light L = ap (λ (rows : List ℕ). rows_of (turned rows)) chains-at

  -- ---- step 7, where nothing but events includes anything
  module _ (includes : List ℕ) (inside : Inside events includes) where
    doubted-at : (u s x : ℕ) → u < width → s < width → x < width → T (mem events u) → T (mem events s)
        → doubted (table_at tally before_table) includes (row_at (table_at tally later_table) u) s x
        ≡ doubted (table_at tally' before_table) includes (row_at (table_at tally' later_table) u) s x
    unfolding doubted in_row
    doubted-at u s x lu ls lx eu es =
        some-ext width _ _
        (λ v lv. and_comm _ _ ∙ where-so (in_row includes v x) _ _
        (λ t. let ev = inside v x lv lx t in
        ap₂ ◌and◌ (same later_table (omega arith) u v lu lv eu ev) (same before_table (omega arith) s v ls lv es ev)) ∙ and_comm _ _)

    followers-events : (u s : ℕ) → u < width → s < width → T (in_row (followers_of events tally) u s) → T (mem events s) × T (mem events u)
    unfolding turned rows_for absent
    followers-events u s lu ls t =
        let there = T-eq (in-rows_of (turned (rows_for events (absent events (table_at tally unalternated_table)))) u s lu ls
        ∙ in-rows_of (λ a x. mem events a and absent events (table_at tally unalternated_table) a x) s u ls lu) t in
        (and_l _ _ there, and_l _ _ (and_r _ _ there))

    redundant-at : (excludes : List ℕ) (L : Traces) (u s x : ℕ) → u < width → s < width → x < width
        → redundant_by tally (followers_of events tally) includes excludes L u s x
        ≡ redundant_by tally' (followers_of events tally) includes excludes L u s x
    unfolding redundant_by
    redundant-at excludes L u s x lu ls lx =
        where-so (in_row excludes u x and non (in_row includes u x) and in_row (followers_of events tally) u s) _ _
        (λ t. let two = followers-events u s lu ls (and_r _ _ t) in
        ap (λ (b : Bool). non (b and reopened includes u L s x)) (doubted-at u s x lu ls lx two.1 two.0))

    pub seven_at : (excludes : List ℕ) (L : Traces) → seven_from events tally includes excludes L ≡ seven_from events tally' includes excludes L
    seven_at excludes L =
        rows_of-ext _ _
        (λ s x ls lx. ap (λ (b : Bool). in_row excludes s x and non b)
        (some-ext width _ _ (λ u lu. ap (λ (b : Bool). mem events u and b)
        (redundant-at excludes L u s x lu ls lx
        ∙ ap (λ (f : List ℕ). redundant_by tally' f includes excludes L u s x)
        (ap (λ (rows : List ℕ). rows_of (turned rows)) alternating-at)))))

  -- from the includes and excludes after step 6 to the tables after step 10
  pub after-six-at : (L : Traces) (includes six : List ℕ) → Inside events includes
      → tables_after_six L events tally includes six ≡ tables_after_six L events tally' includes six
  after-six-at L includes six inside =
      λ i. four_tables (waited_of events (rows_for events (reduced_of (conditions-at i))) includes (seven_at includes inside six L i) L)
      (rows_for events (reduced_of (responses-at i))) includes (seven_at includes inside six L i)

-- ---- the graph of a log

module _ (L : Traces) (tally : List ℕ) where
  chains-inside : Inside (events L) (rows_of (turned (chains_of (events L) tally)))
  unfolding turned rows_for unbroken
  chains-inside a x la lx t =
      let there = T-eq (in-rows_of (turned (chains_of (events L) tally)) a x la lx
      ∙ in-rows_of (λ b y. mem (events L) b and unbroken (events L) (table_at tally unchained_table) b y) x a lx la) t in
      and_l _ _ (and_l _ _ (and_r _ _ there))

  -- nothing but an event includes anything
  pub includes-inside : (p : Profile) → Inside (events L) (includes_six p (events L) tally L)
  includes-inside Light a x la lx t = chains-inside a x la lx t
  includes-inside Full a x la lx t =
      let never : List ℕ = never_of (events L) tally in
      let start : Relation = turned (chains_of (events L) tally) in
      let all = through-rows_of (let_in never) (λ r σ. forward (gains (let_in never)) r [] σ) (λ r σ. forward-rows_of (let_in never) r [] σ) start L in
      let there = T-eq (ap (λ (rows : List ℕ). in_row rows a x) all ∙ in-rows_of (λ b y. start b y or heard (let_in never) L b y) a x la lx) t in
      either (or-e _ _ there)
      (λ c. chains-inside a x la lx (T-eq (sym (in-rows_of start a x la lx)) c))
      (λ c. those-i (event L) a la (place-event a _ L c))

  -- all tables that mining reads
  pub tables-at : (tally' : List ℕ) → AgreeAt (events L) tally tally' → (p : Profile) → tables_read L (events L) tally p ≡ tables_read L (events L) tally' p
  tables-at tally' same p =
      after-six-at (events L) tally tally' same L _ _ (includes-inside p)
      ∙ ap₂ (tables_after_six L (events L) tally') (includes-six-at (events L) tally tally' same p L) (excludes-six-at (events L) tally tally' same p)

module _ (A : ℕ) (L : Traces) (ok : Accepted A L) where
  event-below : (a : ℕ) → T (event L a) → a < A
  unfolding event
  event-below a h = let r = some-trace_lem L _ h in ok.members r.0 r.1 a r.2

  -- the form of A holds every event
  pub all-reached : (x : ℕ) → T (event L x) → reaches (ltb word A) x ≡ true
  all-reached x h = by (ltb word A) refl
    where
      low : ltb word A ≡ false → x < word
      low q = omega (arith, event-below x h, ltb-false word A q)

      by : (b : Bool) → ltb word A ≡ b → reaches b x ≡ true
      by true q = unfold reaches ◌or◌ in refl
      by false q = unfold reaches ◌or◌ in lt-ltb x word (low q)

  reached : (x : ℕ) → x < width → T (mem (events L) x) → reaches (ltb word A) x ≡ true
  reached x l t = all-reached x (T-eq (mem-those (event L) x l) t)

  agree : AgreeAt (events L) (tallied_for (ltb word A) L) (tallied L)
  agree k lk a x la lx ta tx = form-agrees (ltb word A) L k a x lk la lx (reached a la ta) (reached x lx tx)

  -- ---- step 9

  abbrev E : Set
  E = events L

  -- a walk that puts a fact into rows says the same in the form
  walk_at : (p : Fact) → AgreeIn E (through (λ r σ. forward (gains_in (ltb word A) p) r [] σ) no_rows L) (through (λ r σ. forward (gains p) r [] σ) no_rows L)
  walk_at p a x la lx ta tx =
      ap (λ (rows : List ℕ). in_row rows a x) (through-all (formed (ltb word A) p) _ (λ r σ. forward-in (ltb word A) p r [] σ) L)
      ∙ in-rows_of (heard (formed (ltb word A) p) L) a x la lx
      ∙ heard-in (ltb word A) p L a x (reached a la ta) (reached x lx tx)
      ∙ sym (ap (λ (rows : List ℕ). in_row rows a x) (through-all p _ (λ r σ. forward-rows_of p r [] σ) L) ∙ in-rows_of (heard p L) a x la lx)

  waited-form : (eight includes excludes : List ℕ) → waited_in (ltb word A) E eight includes excludes L ≡ waited_of E eight includes excludes L
  unfolding rows_for waited
  waited-form eight includes excludes =
      ap (λ (rows : List ℕ). rows_for E (reduced_of rows))
      (rows_of-ext _ _ (λ a x la lx. where-so (mem E a) _ _ (λ ta. where-so (mem E x) _ _
      (λ tx. ap₂ (λ (f u : Bool). in_row eight a x or non (eqb x a) and f and non u) (walk_at before_first a x la lx ta tx)
      (walk_at (missed E includes excludes) a x la lx ta tx)))))

  -- ---- step 6

  -- what is let in comes later, so it is an event
  let-in-same : (never : List ℕ) (a x : ℕ) → heard (cut (ltb word A) (let_in never)) L a x ≡ heard (let_in never) L a x
  unfolding cut let_in
  let-in-same never a x =
      T-ext _ _
      (λ h. let k = some-place a (λ past rest. cut (ltb word A) (let_in never) a past rest x) L h in
      T-eq (heard-cut (ltb word A) (let_in never) L a x (T→true _ (and_l _ _ k.3))) h)
      (λ h. T-eq (sym (heard-cut (ltb word A) (let_in never) L a x (all-reached x (rest-event a _ x (λ past rest k. and_l _ _ k) L h)))) h)

  includes-form : (p : Profile) (t : List ℕ) → includes_in (ltb word A) p E t L ≡ includes_six p E t L
  includes-form Light t = refl
  includes-form Full t =
      let never : List ℕ = never_of E t in
      let start : Relation = turned (chains_of E t) in
      through-rows_of (cut (ltb word A) (let_in never)) _ (λ r σ. forward-rows_of (cut (ltb word A) (let_in never)) r [] σ) start L
      ∙ rows_of-ext _ _ (λ a x la lx. ap (λ (b : Bool). start a x or b) (let-in-same never a x))
      ∙ sym (through-rows_of (let_in never) _ (λ r σ. forward-rows_of (let_in never) r [] σ) start L)

  -- the events, which are all held
  events-form : those (event_in (ltb word A) L) ≡ E
  unfolding event_in event
  events-form = those-ext _ _ (λ x l. T-ext _ _ (and_r _ _) (λ h. and_i _ _ (true→T (all-reached x h)) h))

  pub form-graph : (p : Profile) → graph_found_in (ltb word A) A L p ≡ graph_found A L p
  unfolding graph_found_in graph_found
  form-graph p =
      let t : List ℕ = tallied_for (ltb word A) L in
      let seven : List ℕ → List ℕ = λ includes. seven_from E t includes (excludes_six p E t) L in
      ap (λ (v : Set). graph_at A v (opening_of v) (tables_in (ltb word A) L v t p)) events-form
      ∙ ap (graph_at A E (opening_of E))
      ((λ i. four_tables (waited-form (rows_for E (reduced_of (conditions_of E t))) (includes-form p t i) (seven (includes-form p t i)) i)
      (rows_for E (reduced_of (responses_of E t))) (includes-form p t i) (seven (includes-form p t i)))
      ∙ tables-at L t (tallied L) agree p)

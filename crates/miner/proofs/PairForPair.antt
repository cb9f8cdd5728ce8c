-- DEMAND 2, of the miner: the graph that is read from the tally and the traces of a log is, pair for pair, the one that the rules give in
-- either profile. First steps 8 to 10 on rows, and the mined relations as they are put together from a tally and from what the later passes
-- find. Assumes nothing of the log but that its activities are below the width, which acceptance gives.
use mathlib.Core.Path.{◌≡◌, refl, sym, ap, ◌∙◌, ap₂}
use mathlib.Core.Bool.{Bool}
use mathlib.Core.List.{List, []}
use Prim.Native.Nat.{ℕ, ◌<◌}
use native.Mathlib.Omega.{arith}
use lib.Dec.{T, eqb}
use Rattle.sets.specs.Tests.{◌and◌, ◌or◌, non}
use Rattle.sets.specs.Members.{width, some_below}
use Rattle.sets.specs.Rows.{Relation, rows_of, rows_for, no_rows, turned}
use Rattle.sets.proofs.Tests.{and_r, and_comm, non-non}
use Rattle.sets.proofs.Tautologies.{by4, by5}
use Rattle.sets.proofs.Below.{some-e, some-ext}
use Rattle.sets.proofs.Members.{mem-those}
use Rattle.sets.proofs.RowLaws.{in-rows_of, rows_of-ext, length-rows_of}
use Rattle.sets.proofs.TableLaws.{length-tables_of, table-tables_of}
use Rattle.engine.specs.Relations.{Relations, relation_count, kept, tables_from}
use Rattle.engine.specs.Markings.{opening_of}
use Rattle.engine.specs.Enabled.{graph_at}
use Rattle.rules.specs.declared.Profile.{Profile}
use Rattle.rules.specs.declared.Profile.TheVariants.{Full, Light}
use Rattle.rules.specs.Traces.{Traces}
use Rattle.rules.specs.Mining.{event, some_event, ◌with◌, ◌without◌, followed, between, never_missed, directly_before, no_relations, reduced, step1}
use Rattle.rules.specs.Mining.{step2, step3, step4, step5, step6, step7, step8, step9, step10, after_five, after_six, after_seven, after_eight, mined}
use Rattle.rules.specs.Mining.{before_first as rule_before_first}
use Rattle.rules.specs.Mined.{graph_from, mined_graph}
use Rattle.rules.proofs.LogLaws.{middle-event, later-event}
use Rattle.rules.proofs.Why.{Small}
use Rattle.steps.specs.Rowwise.{reduced_of, waited}
use Rattle.tally.specs.Tallies.{tallied}
use Rattle.tally.specs.Passes.{Fact, gains, forward, through}
use Rattle.tally.proofs.Folds.{heard, forward-rows_of, through-rows_of, through-all}
use Rattle.miner.specs.Stages.{conditions_of, responses_of, includes_six, excludes_six, seven_from, four_tables, graph_found}
use Rattle.miner.specs.Facts.{let_in, before_first, missed}
use Rattle.miner.proofs.EarlySteps.{events, reduced-rows, turned_rows, conditions-read, responses-read, chains-read}
use Rattle.miner.proofs.Exclusions.{among, joined, first-too, with-events, never-read, excludes-seven}
use Rattle.miner.proofs.Composed.{held-is}
use Rattle.miner.proofs.OverLog.{never_following, let-in-is, missed-is}

-- a pair of a relation is a pair of events
abbrev pub Among : Traces → Relation → Type 0
Among L r = (s t : ℕ) → r s t ≡ (event L s and event L t and r s t)

module _ (L : Traces) where
  -- ---- steps 8 and 10

  -- the middle of two pairs of events is an event
  middles : (r : Relation) → Among L r → (s t : ℕ) → some_below width (λ u. r s u and r u t) ≡ some_event L (λ u. r s u and r u t)
  unfolding some_event
  middles r h s t =
      some-ext width (λ u. r s u and r u t) (λ u. event L u and (r s u and r u t))
      (λ u l.
      ap (λ (b : Bool). r s u and b) (h u t)
      ∙ by4 (λ e f x y. x and (e and f and y)) (λ e f x y. e and (x and (e and f and y))) (unfold ◌and◌ ◌or◌ non in tt) (event L u) (event L t) (r s u) (r u t)
      ∙ ap (λ (b : Bool). event L u and (r s u and b)) (sym (h u t)))

  pub reduced-by-source : (r : Relation) → Among L r → rows_for (events L) (reduced_of (rows_of r)) ≡ rows_of (reduced L r)
  unfolding reduced ◌without◌
  reduced-by-source r h =
      reduced-rows (event L) r
      ∙ rows_of-ext _ _ (λ s t ls lt. first-too (event L s) (event L t) (r s t) _ (h s t)
      ∙ ap (λ (b : Bool). r s t and non b) (middles r h s t))

  pub reduced-by-target : (r : Relation) → Among L r → rows_for (events L) (reduced_of (rows_of (λ t s. r s t)))
      ≡ rows_of (λ t s. reduced L r s t)
  unfolding reduced ◌without◌
  reduced-by-target r h =
      reduced-rows (event L) (λ t s. r s t)
      ∙ rows_of-ext _ _
      (λ t s lt ls.
      first-too (event L t) (event L s) (r s t) _ (h s t ∙ ap (λ (b : Bool). b and r s t) (and_comm (event L s) (event L t)))
      ∙ ap (λ (b : Bool). r s t and non b)
      (some-ext width (λ u. r u t and r s u) (λ u. r s u and r u t) (λ u l. and_comm (r u t) (r s u)) ∙ middles r h s t))

  -- ---- step 9

  waited-read : (g : Relations)
      → rows_for (events L) (waited (events L) (rows_of (λ t s. g.conditions s t)) (rows_of (λ t s. rule_before_first L s t))
      (rows_of (λ t s. non (never_missed L g s t))))
      ≡ rows_of (λ t s. (step9 L g).conditions s t)
  unfolding rows_for waited step9 ◌with◌
  waited-read g =
      rows_of-ext _ _
      (λ t s lt ls.
      simp (mem-those, in-rows_of, non-non)
      (by5 (λ a b c d f. a and (b and (c or d and f))) (λ a b c d f. b and a and (c or d and f)) (unfold ◌and◌ ◌or◌ non in tt)
      (event L t) (event L s) (g.conditions s t) (non (eqb s t) and rule_before_first L s t) (never_missed L g s t)))

  -- ---- the mined relations

  -- step 6, made or skipped, leaves the conditions and responses of step 2
  six-keeps : (p : Profile) → ((after_six L p).responses ≡ (after_five L).responses) × ((after_six L p).conditions ≡ (after_five L).conditions)
  unfolding after_six step6
  six-keeps Full = (refl, refl)
  six-keeps Light = (refl, refl)

  pub responses-mined : (p : Profile) → rows_for (events L) (reduced_of (responses_of (events L) (tallied L))) ≡ rows_of (mined L p).responses
  unfolding mined step10 step9 after_eight step8 after_seven step7 after_five step5 step4 step3 step2
  responses-mined p =
      ap (λ (rows : List ℕ). rows_for (events L) (reduced_of rows)) (responses-read L)
      ∙ reduced-by-source (after_five L).responses (with-events L _ _)
      ∙ sym (ap (λ (r : Relation). rows_of (reduced L r)) (six-keeps p).0)

  pub conditions-eight : (p : Profile)
      → rows_for (events L) (reduced_of (conditions_of (events L) (tallied L))) ≡ rows_of (λ t s. (after_eight L p).conditions s t)
  unfolding after_eight step8 after_seven step7 after_five step5 step4 step3 step2
  conditions-eight p =
      ap (λ (rows : List ℕ). rows_for (events L) (reduced_of rows)) (conditions-read L)
      ∙ reduced-by-target (after_five L).conditions (with-events L _ _)
      ∙ sym (ap (λ (r : Relation). rows_of (λ t s. reduced L r s t)) (six-keeps p).1)

  -- from what the pass of step 9 finds
  pub conditions-mined : (p : Profile) (first unmet : List ℕ) → first ≡ rows_of (λ t s. rule_before_first L s t)
      → unmet ≡ rows_of (λ t s. non (never_missed L (after_eight L p) s t))
      → rows_for (events L) (reduced_of (rows_for (events L)
      (waited (events L) (rows_for (events L) (reduced_of (conditions_of (events L) (tallied L)))) first unmet)))
      ≡ rows_of (λ t s. (mined L p).conditions s t)
  unfolding mined step10 step9
  conditions-mined p first unmet hf hu =
      ap (λ (rows : List ℕ). rows_for (events L) (reduced_of rows))
      ((λ i. rows_for (events L) (waited (events L) (conditions-eight p i) (hf i) (hu i))) ∙ waited-read (after_eight L p))
      ∙ reduced-by-target (step9 L (after_eight L p)).conditions (with-events L _ _)

  -- what step 6 adds: each u that stands between an s and a later t, where no s is directly followed by t
  abbrev pub betweens : Relation
  betweens u t = some_event L (λ s. non (followed L s t) and between L s u t)

  betweens-events : Among L betweens
  unfolding some_event
  betweens-events u t = among (betweens u t) (event L u) (event L t) (λ h. middle-event L _ u t (at h)) (λ h. later-event L _ u t (at h))
    where
      at : (h : T (some_below width (λ s. event L s and (non (followed L s t) and between L s u t))))
          → T (between L (some-e width (λ s. event L s and (non (followed L s t) and between L s u t)) h).0 u t)
      at h = and_r _ _ (and_r _ _ (some-e width (λ s. event L s and (non (followed L s t) and between L s u t)) h).2)

  pub includes-full : rows_of (λ u t. (after_five L).includes u t or betweens u t) ≡ rows_of (after_six L Full).includes
  unfolding after_six step6 after_five step5 step4 step3 ◌with◌
  includes-full =
      rows_of-ext _ _ (λ u t lu lt. joined (event L u) (event L t) ((after_five L).includes u t) (betweens u t)
      (with-events L (step2 L (step1 L no_relations)).includes (directly_before L) u t) (betweens-events u t))

-- the tables of four relations, put in one after the other
pub four-tables_lem : (q : Relations)
    → four_tables (rows_of (λ t s. q.conditions s t)) (rows_of q.responses) (rows_of q.includes) (rows_of q.excludes) ≡ tables_from q
four-tables_lem q =
    sym (held-is _ _ _ _ (length-rows_of _) (length-rows_of _) (length-rows_of _) (length-rows_of _) (tables_from q)
    (record {
      long = length-tables_of relation_count (kept q);
      conditions = table-tables_of relation_count (kept q) 0 (omega arith);
      responses = table-tables_of relation_count (kept q) 1 (omega arith);
      includes = table-tables_of relation_count (kept q) 2 (omega arith);
      excludes = table-tables_of relation_count (kept q) 3 (omega arith);
    }))

module _ (L : Traces) where
  -- the rows that a walk leaves, by what the rules say of each pair
  walk_is : (p : Fact) (R : Relation) → ((a x : ℕ) → a < width → x < width → heard p L a x ≡ R a x)
      → through (λ r σ. forward (gains p) r [] σ) no_rows L ≡ rows_of R
  walk_is p R e = through-all p (λ r σ. forward (gains p) r [] σ) (λ r σ. forward-rows_of p r [] σ) L ∙ rows_of-ext (heard p L) R e

  -- the walk of step 6 starts from the includes of step 3
  includes-six_lem : (p : Profile) → includes_six p (events L) (tallied L) L ≡ rows_of (after_six L p).includes
  unfolding after_six
  includes-six_lem Full =
      (λ i. through (λ r σ. forward (gains (let_in (never-read L i))) r [] σ) (rows_of (turned (chains-read L i))) L)
      ∙ ap (λ (rows : List ℕ). through (λ r σ. forward (gains (let_in (never_following L))) r [] σ) rows L)
      (turned_rows (λ t s. (after_five L).includes s t))
      ∙ through-rows_of (let_in (never_following L)) _ (λ r σ. forward-rows_of (let_in (never_following L)) r [] σ) (after_five L).includes L
      ∙ rows_of-ext _ _ (λ u t lu lt. ap (λ (b : Bool). (after_five L).includes u t or b) (let-in-is L u t lt))
      ∙ includes-full L
  includes-six_lem Light = ap (λ (rows : List ℕ). rows_of (turned rows)) (chains-read L) ∙ turned_rows (λ t s. (after_five L).includes s t)

  includes-are : (p : Profile) → includes_six p (events L) (tallied L) L ≡ rows_of (mined L p).includes
  unfolding mined step10 step9 after_eight step8 after_seven step7
  includes-are p = includes-six_lem p

  module _ (small : Small L) (p : Profile) where
    -- the replay of step 9 goes by the includes and excludes after step 7, which no later step changes
    missed-are : through (λ r σ. forward (gains (missed (events L) (rows_of (mined L p).includes) (rows_of (mined L p).excludes))) r [] σ)
        no_rows L
        ≡ rows_of (λ t s. non (never_missed L (after_eight L p) s t))
    unfolding mined step10 step9
    missed-are =
        walk_is (missed (events L) (rows_of (after_eight L p).includes) (rows_of (after_eight L p).excludes))
        (λ t s. non (never_missed L (after_eight L p) s t))
        (λ t s lt ls. missed-is L (after_eight L p) s ls small t)

    excludes-are : seven_from (events L) (tallied L) (includes_six p (events L) (tallied L) L) (excludes_six p (events L) (tallied L)) L
        ≡ rows_of (mined L p).excludes
    unfolding mined step10 step9 after_eight step8
    excludes-are = excludes-seven L small p _ (includes-six_lem p)

    pub pair-for-pair : (A : ℕ) → graph_found A L p ≡ mined_graph A L p
    unfolding graph_found mined_graph graph_from
    pair-for-pair A =
        let conditions-are =
        conditions-mined L p _ _ (walk_is before_first (λ t s. rule_before_first L s t) (λ t s lt ls. unfold before_first rule_before_first in refl))
        (ap₂ (λ (x y : List ℕ). through (λ r σ. forward (gains (missed (events L) x y)) r [] σ) no_rows L) (includes-are p)
        excludes-are ∙ missed-are) in
        (λ i.
        graph_at A (events L) (opening_of (events L))
        (four_tables (conditions-are i) (responses-mined L p i) (includes-are p i) (excludes-are i)))
        ∙ ap (graph_at A (events L) (opening_of (events L))) (four-tables_lem (mined L p))

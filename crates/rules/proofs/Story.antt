-- 02, 7/12, the trainers' story: by the step 7 that 01 had, the graph of a log without a call that has Amend after Seal let Amend happen
-- after Seal; by the step 7 of 02 it is refused with 9. Both are computed by antt. The new graph and its replay stand in the table of Cases too.
use mathlib.Core.Path.{◌≡◌, refl}
use mathlib.Core.Bool.{false}
use mathlib.Core.List.{List, [], ◌∷◌}
use Prim.Native.Nat.{ℕ}
use Rattle.sets.specs.Tests.{◌and◌, ◌or◌, non}
use Rattle.sets.specs.Members.{bit, bits_of, some_below, least_below, those, mem}
use Rattle.sets.specs.Rows.{list_from}
use Rattle.engine.specs.Markings.{opening_of}
use Rattle.engine.specs.Relations.{Relations}
use Rattle.engine.specs.Steps.{waits, blocker, enabled, after, accepting}
use Rattle.engine.specs.Replay.{replay_from}
use Rattle.rules.specs.declared.Profile.{Profile}
use Rattle.rules.specs.declared.Profile.TheVariants.{Full}
use Rattle.rules.specs.Traces.{Traces, ◌has◌, ◌begins_with◌, at_each_from, at_some_from, every_trace, some_trace}
use Rattle.rules.specs.Mining.{no_pair, no_relations, smallest_source, ◌without◌, event, some_event, ◌with◌, at_most_once, precedes, answers, chained, together, before, followed, between, alternates, before_first, step1, step2, directly_before, step3, never_together, step4, closes, step5, step6, let_in_between, makes_redundant, step7, reduced, step8, included_after, never_missed, step9, step10, after_five, after_six, after_seven, after_eight, mined}
use Rattle.rules.proofs.Listed.{◌to◌, pairs, Given, ended, end}
use Rattle.rules.proofs.Cases.{story}

module _ (L : Traces) where
  -- step 7 as 01 had it: some u excludes t and alternately precedes s, whatever let t in again
  unfoldable pub step7_of01 : Relations → Relations
  step7_of01 g =
      record {
        conditions = g.conditions;
        responses = g.responses;
        includes = g.includes;
        excludes = g.excludes without (λ s t. some_event L (λ u. g.excludes u t and alternates L u s));
      }

  -- the relations after all steps, with it
  unfoldable pub mined_of01 : Profile → Relations
  mined_of01 p = step10 L (step9 L (step8 L (step7_of01 (after_six L p))))

  -- the replay of a trace by relations over the log's events, from the opening marking
  abbrev pub replay_by : Relations → List ℕ → Given
  replay_by g σ = end (replay_from (those (event L)) g (opening_of (those (event L))) 0 σ)

-- Draft, Check, Seal, Amend
abbrev pub amend_after_seal : List ℕ
amend_after_seal = 0 ∷ 1 ∷ 3 ∷ 2 ∷ []

-- THE THEOREM: what each step 7 leaves of the exclusions, and what becomes of Amend after Seal
pub as-told : (pairs 4 (mined_of01 story Full).excludes ≡ 0 to 0 ∷ 0 to 2 ∷ 0 to 3 ∷ 1 to 1 ∷ [])
    × (replay_by story (mined_of01 story Full) amend_after_seal ≡ ended 0 255 4 false)
    × (pairs 4 (mined story Full).excludes ≡ 0 to 0 ∷ 0 to 2 ∷ 0 to 3 ∷ 1 to 1 ∷ 2 to 2 ∷ 3 to 2 ∷ 3 to 3 ∷ [])
    × (replay_by story (mined story Full) amend_after_seal ≡ ended 9 255 3 false)
unfolding story step7_of01 mined_of01
    ◌and◌ ◌or◌ non bit mem those bits_of some_below least_below list_from waits blocker enabled after accepting replay_from
    ◌has◌ ◌begins_with◌ at_each_from at_some_from every_trace some_trace
    no_pair no_relations smallest_source ◌without◌ event some_event ◌with◌ at_most_once precedes answers chained together before followed between alternates before_first
    step1 step2 directly_before step3 never_together step4 closes step5 step6 let_in_between makes_redundant step7 reduced step8 included_after never_missed step9 step10
    after_five after_six after_seven after_eight mined
as-told = (refl, refl, refl, refl)

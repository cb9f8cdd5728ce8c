-- Where the words of 01, or of 02, 7/12, allow more than one reading: logs on which the readings differ, and the pairs that the chosen reading gives. What
-- steps 1 and 3 to 5 exclude is read in the light graph, since step 6 hides it in a full one, in a table and a theorem of its own. Both are
-- computed by antt.
use mathlib.Core.Path.{◌≡◌, refl}
use mathlib.Core.List.{List, [], ◌∷◌, map}
use Prim.Native.Nat.{ℕ}
use Rattle.sets.specs.Tests.{◌and◌, ◌or◌, non}
use Rattle.sets.specs.Members.{some_below}
use Rattle.sets.specs.Rows.{list_from}
use Rattle.rules.specs.declared.Profile.TheVariants.{Full, Light}
use Rattle.rules.specs.Traces.{Traces, ◌has◌, ◌begins_with◌, at_each_from, at_some_from, every_trace, some_trace}
use Rattle.rules.specs.Mining.{no_pair, no_relations, smallest_source, ◌without◌, event, some_event, ◌with◌, at_most_once, precedes, answers, chained, together, before, followed, between, alternates, before_first, step1, step2, directly_before, step3, never_together, step4, closes, step5, step6, let_in_between, makes_redundant, step7, reduced, step8, included_after, never_missed, step9, step10, after_five, after_six, after_seven, after_eight, mined}
use Rattle.rules.proofs.Listed.{Pair, ◌to◌, one_of, pairs, Claim, ◌are◌, found, meant}

-- the relations of a log with activities below A, by their pairs
abbrev includes_of : ℕ → Traces → List Pair
includes_of A L = pairs A (mined L Full).includes

abbrev excludes_of : ℕ → Traces → List Pair
excludes_of A L = pairs A (mined L Full).excludes

abbrev conditions_of : ℕ → Traces → List Pair
conditions_of A L = pairs A (mined L Full).conditions

abbrev light_excludes : ℕ → Traces → List Pair
light_excludes A L = pairs A (mined L Light).excludes

-- steps 1 and 3 to 5, in the light graph
pub light_readings : List Claim
light_readings =
    -- step 1: what stands once in each trace excludes itself. Step 4: the smallest source is taken among the step's own pairs; 0 excludes 0
    -- already, and 1 excludes 0 all the same
    light_excludes 2 ((0 ∷ []) ∷ (1 ∷ []) ∷ []) are (0 to 0 ∷ 0 to 1 ∷ 1 to 0 ∷ 1 to 1 ∷ [])
    -- each target keeps one source: of 1 and 2 for 0, of 0 and 2 for 1, of 0 and 1 for 2
    ∷ light_excludes 3 ((0 ∷ []) ∷ (1 ∷ []) ∷ (2 ∷ []) ∷ []) are (0 to 0 ∷ 0 to 1 ∷ 0 to 2 ∷ 1 to 0 ∷ 1 to 1 ∷ 2 to 2 ∷ [])
    -- step 5: the later one is the source; of 1 and 2, both after 0, the smaller is kept (the second would go at step 7 in the first log,
    -- not in the other)
    ∷ light_excludes 3 ((0 ∷ 0 ∷ 1 ∷ 2 ∷ []) ∷ []) are (1 to 0 ∷ 1 to 1 ∷ 2 to 2 ∷ [])
    ∷ light_excludes 3 ((0 ∷ 0 ∷ 1 ∷ []) ∷ (0 ∷ 0 ∷ 2 ∷ []) ∷ []) are (1 to 0 ∷ 1 to 1 ∷ 1 to 2 ∷ 2 to 1 ∷ 2 to 2 ∷ [])
    -- here too the step's own pairs count alone: 0 excludes 1 by step 4, and 2 excludes 1 all the same
    ∷ light_excludes 3 ((0 ∷ []) ∷ (1 ∷ 1 ∷ 2 ∷ []) ∷ []) are (0 to 0 ∷ 0 to 1 ∷ 0 to 2 ∷ 1 to 0 ∷ 2 to 1 ∷ 2 to 2 ∷ [])
    -- step 3: 2 excludes itself, though a trace has it twice. Step 5: what excludes itself by step 3 is left out as well, so no 4 to 2
    ∷ light_excludes 5 ((1 ∷ 2 ∷ 1 ∷ 2 ∷ 4 ∷ []) ∷ (4 ∷ []) ∷ []) are (2 to 2 ∷ 4 to 1 ∷ 4 to 4 ∷ [])
    ∷ []

-- THE THEOREM of steps 1 and 3 to 5
pub as-read-light : map found light_readings ≡ map meant light_readings
unfolding light_readings ◌and◌ ◌or◌ non some_below list_from ◌has◌ ◌begins_with◌ at_each_from at_some_from every_trace some_trace
    no_pair no_relations smallest_source ◌without◌ event some_event ◌with◌ at_most_once precedes answers chained together before between alternates
    step1 step2 directly_before step3 never_together step4 closes step5 let_in_between makes_redundant step7 step8 step9 step10 after_five after_six after_seven after_eight mined
as-read-light = refl

-- the other steps, in the full graph
pub readings : List Claim
readings =
    -- step 6: what stands between may be the source itself (0 to 2) or the target (2 to 2), and the target is any later one (3 to 2)
    includes_of 3 ((0 ∷ 0 ∷ 1 ∷ 2 ∷ []) ∷ []) are (0 to 1 ∷ 0 to 2 ∷ 1 to 2 ∷ [])
    ∷ includes_of 3 ((0 ∷ 1 ∷ 2 ∷ 2 ∷ []) ∷ []) are (0 to 1 ∷ 1 to 2 ∷ 2 to 2 ∷ [])
    ∷ includes_of 4 ((0 ∷ 1 ∷ 2 ∷ 3 ∷ 2 ∷ []) ∷ (2 ∷ 2 ∷ []) ∷ []) are (0 to 1 ∷ 1 to 2 ∷ 1 to 3 ∷ 2 to 2 ∷ 2 to 3 ∷ 3 to 2 ∷ [])
    -- step 7: what excludes the target may be the target itself: 0 to 1 goes
    ∷ excludes_of 2 ((1 ∷ 0 ∷ []) ∷ []) are (0 to 0 ∷ 1 to 1 ∷ [])
    -- and 1 to 0, which goes too, still takes 2 to 0 with it
    ∷ excludes_of 4 ((0 ∷ 3 ∷ 1 ∷ 3 ∷ 3 ∷ 2 ∷ 1 ∷ 2 ∷ []) ∷ []) are (0 to 0 ∷ 0 to 1 ∷ 0 to 2 ∷ 1 to 1 ∷ 2 to 2 ∷ 2 to 3 ∷ 3 to 0 ∷ [])
    -- 02, 7/12: a v between any u and any later s counts, not only since the nearest u: 2 to 0 stays. And v may be u or s
    ∷ excludes_of 3 ((0 ∷ 1 ∷ 0 ∷ 2 ∷ []) ∷ []) are (0 to 0 ∷ 1 to 1 ∷ 1 to 2 ∷ 2 to 0 ∷ 2 to 1 ∷ 2 to 2 ∷ [])
    ∷ excludes_of 4 ((0 ∷ 1 ∷ 0 ∷ 1 ∷ []) ∷ (0 ∷ 1 ∷ 2 ∷ 3 ∷ []) ∷ []) are (0 to 0 ∷ 0 to 2 ∷ 0 to 3 ∷ 1 to 1 ∷ 1 to 3 ∷ 2 to 0 ∷ 2 to 2 ∷ 3 to 3 ∷ [])
    -- one u must pass the whole test, and one is enough: 3 to 2 goes
    ∷ excludes_of 4 ((0 ∷ 1 ∷ 2 ∷ 3 ∷ []) ∷ []) are (0 to 0 ∷ 0 to 2 ∷ 0 to 3 ∷ 1 to 1 ∷ 2 to 2 ∷ 3 to 3 ∷ [])
    -- u may not include t itself: 2 to 0 stays. v must stand between the two in one trace: 2 to 1 goes
    ∷ excludes_of 4 ((0 ∷ 1 ∷ 2 ∷ 3 ∷ 0 ∷ []) ∷ []) are (0 to 0 ∷ 0 to 2 ∷ 0 to 3 ∷ 1 to 1 ∷ 2 to 0 ∷ 2 to 2 ∷ 3 to 3 ∷ [])
    ∷ excludes_of 3 ((0 ∷ 1 ∷ 2 ∷ 0 ∷ []) ∷ []) are (0 to 0 ∷ 0 to 2 ∷ 1 to 1 ∷ 2 to 2 ∷ [])
    -- step 8: what stands in the middle may be the source or the target
    ∷ pairs 2 (reduced ((0 ∷ 1 ∷ []) ∷ []) (one_of (0 to 0 ∷ 0 to 1 ∷ []))) are []
    -- step 9: before the first target, not before any: no 2 to 1
    ∷ conditions_of 3 ((0 ∷ 1 ∷ 2 ∷ 1 ∷ []) ∷ []) are (0 to 1 ∷ 1 to 2 ∷ [])
    -- included is asked before the target's own step: no 1 to 0
    ∷ conditions_of 2 ((0 ∷ []) ∷ (1 ∷ 0 ∷ []) ∷ []) are []
    -- both halves are asked: 2 is not included at 0, but is never before it
    ∷ conditions_of 3 ((1 ∷ 0 ∷ 2 ∷ []) ∷ []) are (0 to 2 ∷ 1 to 0 ∷ [])
    ∷ []

-- THE THEOREM of the later steps
pub as_read : map found readings ≡ map meant readings
unfolding readings ◌and◌ ◌or◌ non some_below list_from ◌has◌ ◌begins_with◌ at_each_from at_some_from every_trace some_trace
    no_pair no_relations smallest_source ◌without◌ event some_event ◌with◌ at_most_once precedes answers chained together before followed between alternates before_first
    step1 step2 directly_before step3 never_together step4 closes step5 step6 let_in_between makes_redundant step7 reduced step8 included_after never_missed step9 step10
    after_five after_six after_seven after_eight mined
as_read = refl

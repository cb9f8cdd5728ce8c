-- How a call can still finish (02, 8/12), for every graph and marking.
use Rattle.std.specs.Prelude.{Bool, List, [], ◌∷◌, ℕ, zero, suc, ltb, get_or}
use Rattle.sets.specs.Tests.{◌and◌, when◌then◌else◌}
use Rattle.sets.specs.Members.{width, some_below, least_below}
use Rattle.sets.specs.Answers.{is_done}
use Rattle.sets.specs.declared.activity.Activity.{Activity}
use Rattle.sets.specs.declared.set.Set.{Set}
use Rattle.sets.specs.declared.answer.Answer.{Answer}
use Rattle.sets.specs.declared.answer.Answer.TheVariants.{Done, NoWayOut}
use Rattle.engine.specs.declared.marking.State.{State}
use Rattle.engine.specs.declared.marking.Marking.{Marking}
use Rattle.engine.specs.declared.graph.Graph.{Graph}
use Rattle.engine.specs.Relations.{Relations, relations_of}
use Rattle.engine.specs.Steps.{enabled, after, accepting}
use Rattle.engine.specs.Judged.{judged_with, judged_beside}
use Rattle.finish.specs.declared.search.Way.{Way}
use Rattle.finish.specs.declared.search.Finished.{Finished}

-- "a sequence of at most 4 activities"
abbrev pub most_steps : ℕ
most_steps = 4

-- some n steps, each enabled in its turn, end where the call is accepting
unfoldable pub can_finish : Set → Relations → ℕ → State → Bool
can_finish events r zero m = accepting m
can_finish events r (suc n) m = some_below width (λ a. is_done (enabled events r m a) and can_finish events r n (after r m a))

-- they can begin with a
abbrev pub begins : Set → Relations → ℕ → State → ℕ → Bool
begins events r n m a = is_done (enabled events r m a) and can_finish events r n (after r m a)

-- the first n steps by activity numbers: the least that they can begin with, then the same from the state after it
unfoldable pub way_of : Set → Relations → ℕ → State → List ℕ
way_of events r zero m = []
way_of events r (suc n) m =
    least_below width (begins events r n m) ∷ way_of events r n (after r m (least_below width (begins events r n m)))

-- "the shortest": the least number of steps, or one more than there may be
unfoldable pub fewest : Set → Relations → State → ℕ
fewest events r m = least_below (suc most_steps) (λ n. can_finish events r n m)

-- "unused places of the four hold 255"
abbrev pub unused : ℕ
unused = 255

abbrev place_of : List ℕ → ℕ → Activity
place_of σ k = record { 0 = get_or σ k unused }

abbrev pub in_four : List ℕ → Way
in_four σ = record { first = place_of σ 0; second = place_of σ 1; third = place_of σ 2; fourth = place_of σ 3 }

abbrev pub finished_by : Answer → List ℕ → Finished
finished_by a σ = record { answer = a; way = in_four σ }

-- the shortest way, and of these the first; 17 where there is none
unfoldable pub shortest_of : Set → Relations → State → Finished
shortest_of events r m =
    when ltb most_steps (fewest events r m) then finished_by NoWayOut []
    else finished_by Done (way_of events r (fewest events r m) m)

-- what was judged comes first; a refusal returns four 255s
abbrev pub finish_after : Answer → Set → Relations → State → Finished
finish_after judged events r m = when is_done judged then shortest_of events r m else finished_by judged []

-- 3, 5 and 16 of the graph and of the marking (02, 8/12: "3, 5 and 16 come first")
unfoldable pub finish_of : Graph → Marking → Finished
finish_of g m = finish_after (judged_with g m) g.head.events (relations_of g) m.state

-- on a graph that was judged before: 5 and 16 of the marking
unfoldable pub finish_on : Set → Relations → Marking → Finished
finish_on events r m = finish_after (judged_beside events r m) events r m.state

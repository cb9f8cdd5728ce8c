-- What the engine's public functions give, for every graph, marking, activity and trace (01, "A step").
use Rattle.std.specs.Prelude.{Bool, false, List, [], ◌∷◌, ℕ, ◌+◌, length}
use Rattle.sets.specs.Tests.{◌and◌, when◌then◌else◌}
use Rattle.sets.specs.Answers.{is_done, then_ask}
use Rattle.sets.specs.declared.set.Set.{Set}
use Rattle.sets.specs.declared.answer.Answer.{Answer}
use Rattle.sets.specs.declared.answer.Answer.TheVariants.{Done}
use Rattle.engine.specs.declared.marking.State.{State}
use Rattle.engine.specs.declared.marking.Marking.{Marking}
use Rattle.engine.specs.declared.graph.Graph.{Graph}
use Rattle.engine.specs.declared.step.Stepped.{Stepped}
use Rattle.engine.specs.declared.step.Verdict.{Verdict}
use Rattle.engine.specs.declared.replay.Replayed.{Replayed}
use Rattle.engine.specs.declared.replay.Walked.{Walked}
use Rattle.engine.specs.Markings.{empty_marking}
use Rattle.engine.specs.Relations.{Relations, relations_of}
use Rattle.engine.specs.Steps.{enabled, after, accepting}
use Rattle.engine.specs.Enabled.{marked}
use Rattle.engine.specs.Judged.{judged_for, judged_with, judged_beside}

-- enabled: 3, 5 and 16, then 8, 9, 10
unfoldable pub enabled_of : Graph → Marking → ℕ → Answer
enabled_of g m e = then_ask (judged_with g m) (enabled g.head.events (relations_of g) m.state e)

-- the same on a graph that was judged before
unfoldable pub enabled_on : Set → Relations → Marking → ℕ → Answer
enabled_on events r m e = then_ask (judged_beside events r m) (enabled events r m.state e)

-- the marking after a step, with its own set of enabled activities
abbrev pub next_marking : Graph → Marking → ℕ → Marking
next_marking g m e = marked g.head.events (relations_of g) (after (relations_of g) m.state e)

-- a step that is answered so: the marking after it, or as it was where refused
abbrev pub stepped_by : Answer → Set → Relations → Marking → ℕ → Stepped
stepped_by a events r m e = record { answer = a; marking = when is_done a then marked events r (after r m.state e) else m }

-- the step
unfoldable pub stepped_of : Graph → Marking → ℕ → Stepped
stepped_of g m e = stepped_by (enabled_of g m e) g.head.events (relations_of g) m e

-- the same on a graph that was judged before
unfoldable pub stepped_on : Set → Relations → Marking → ℕ → Stepped
stepped_on events r m e = stepped_by (enabled_on events r m e) events r m e

-- accepting: no where refused
unfoldable pub accepting_of : Graph → Marking → Verdict
accepting_of g m = record { answer = judged_with g m; accepting = is_done (judged_with g m) and accepting m.state }

-- the result of a replay
abbrev pub ending : Answer → ℕ → Marking → Bool → Replayed
ending a i m accepts = record { answer = a; place = record { 0 = i }; marking = m; accepting = accepts }

-- the same with the state in the marking's place
abbrev pub walked_of : Replayed → Walked
walked_of r = record { answer = r.answer; place = r.place; state = r.marking.state; accepting = r.accepting }

-- the rest of a trace, from the state s at place i: it stops at the first refusal, with the marking before it. The set of enabled activities
-- is that of the marking given back; none is kept on the way
unfoldable pub replay_from : Set → Relations → State → ℕ → List ℕ → Replayed
replay_from events r s i [] = ending Done i (marked events r s) (accepting s)
replay_from events r s i (e ∷ es) =
    when is_done (enabled events r s e) then replay_from events r (after r s e) (i + 1) es
    else ending (enabled events r s e) i (marked events r s) false

-- the replay of a trace: from the opening marking; refused with 3, 5 or 16 it gives place 0 and the empty marking
unfoldable pub replay_of : Graph → List ℕ → Replayed
replay_of g trace =
    when is_done (judged_for g (length trace)) then replay_from g.head.events (relations_of g) g.head.opening.state 0 trace
    else ending (judged_for g (length trace)) 0 empty_marking false

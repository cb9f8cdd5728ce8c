-- What the plain engine's functions give, for every graph, marking, activity and trace: by 01's step rules, which are those of the engine
-- on sets (02, 1/12: "the step rules in 01 stay the judge of both").
use Rattle.std.specs.Prelude.{false, List, ℕ, length}
use Rattle.sets.specs.Tests.{◌and◌, when◌then◌else◌}
use Rattle.sets.specs.Answers.{is_done, then_ask}
use Rattle.sets.specs.declared.answer.Answer.{Answer}
use Rattle.engine.specs.declared.marking.Marking.{Marking}
use Rattle.engine.specs.declared.step.Stepped.{Stepped}
use Rattle.engine.specs.declared.step.Verdict.{Verdict}
use Rattle.engine.specs.declared.replay.Replayed.{Replayed}
use Rattle.engine.specs.Markings.{empty_marking}
use Rattle.engine.specs.Steps.{enabled, after, accepting}
use Rattle.engine.specs.Enabled.{marked}
use Rattle.engine.specs.Replay.{ending, replay_from}
use Rattle.plain.specs.Graphs.{PlainGraph, plain_relations, plain_judged_for, plain_judged_with}

-- enabled: 3, 5 and 16, then 8, 9, 10
unfoldable pub plain_enabled_of : PlainGraph → Marking → ℕ → Answer
plain_enabled_of g m e = then_ask (plain_judged_with g m) (enabled g.head.events (plain_relations g) m.state e)

-- the step: the marking after it, with its own set of enabled activities, or as it was where refused
unfoldable pub plain_stepped_of : PlainGraph → Marking → ℕ → Stepped
plain_stepped_of g m e =
    record {
      answer = plain_enabled_of g m e;
      marking = when is_done (plain_enabled_of g m e)
          then marked g.head.events (plain_relations g) (after (plain_relations g) m.state e)
          else m;
    }

-- accepting: no where refused
unfoldable pub plain_accepting_of : PlainGraph → Marking → Verdict
plain_accepting_of g m = record { answer = plain_judged_with g m; accepting = is_done (plain_judged_with g m) and accepting m.state }

-- the replay of a trace: from the opening marking; refused with 3, 5 or 16 it gives place 0 and the empty marking
unfoldable pub plain_replay_of : PlainGraph → List ℕ → Replayed
plain_replay_of g trace =
    when is_done (plain_judged_for g (length trace)) then replay_from g.head.events (plain_relations g) g.head.opening.state 0 trace
    else ending (plain_judged_for g (length trace)) 0 empty_marking false

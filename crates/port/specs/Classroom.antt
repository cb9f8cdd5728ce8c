-- The plain engine's functions: the head of a graph comes as bytes, its relations as four lists of pairs (02, 1/12).
use Rattle.std.specs.Prelude.{false, List, ℕ, ltb, length}
use Rattle.sets.specs.Tests.{when◌then◌else◌}
use Rattle.sets.specs.Answers.{is_done, then_ask}
use Rattle.sets.specs.declared.answer.Answer.{Answer}
use Rattle.sets.specs.declared.answer.Answer.TheVariants.{Done, BufferTooSmall}
use Rattle.engine.specs.declared.step.Stepped.{Stepped}
use Rattle.graphfile.specs.Held.{read_of}
use Rattle.graphfile.specs.Heads.{lone_head_length, wide_head, head_from}
use Rattle.graphfile.specs.Markings.{marking_length, marking_from}
use Rattle.plain.specs.Graphs.{PlainGraph, plain_of, plain_judged_for}
use Rattle.plain.specs.Results.{plain_stepped_of, plain_accepting_of, plain_replay_of}
use Rattle.plain.specs.Filling.{relation_at, filled_of, memory_after}
use Rattle.port.specs.declared.classroom.Handed.{Handed}
use Rattle.port.specs.Port.{packed_of, verdict_of, blocked_of, refused_step, stored_of}

-- the graph that is handed over
abbrev pub handed : List ℕ → List ℕ → List ℕ → List ℕ → List ℕ → PlainGraph
handed head c r i x = plain_of (head_from head) c r i x

abbrev pub graph_handed : Handed → PlainGraph
graph_handed g = handed g.head.now g.conditions.now g.responses.now g.includes.now g.excludes.now

-- 7 where there are too few bytes for a head, so that there is no graph to judge; where there are too few for a marking the graph's refusals,
-- then 7. A graph with a marking beside it is judged with it, since all 5s come before any 16 (02, 6/12). How many are enough, the head's A tells
unfoldable pub judged_handed : List ℕ → List ℕ → List ℕ → List ℕ → List ℕ → List ℕ → Answer
judged_handed head c r i x marking =
    when ltb (length head) (lone_head_length (wide_head head)) then BufferTooSmall
    else when ltb (length marking) (marking_length (wide_head head)) then then_ask (plain_judged_for (handed head c r i x) 0) BufferTooSmall
    else Done

-- skelfora_plain_step: these, then what the step gives
unfoldable pub plain_step_of : List ℕ → List ℕ → List ℕ → List ℕ → List ℕ → List ℕ → ℕ → Stepped
plain_step_of head c r i x marking a =
    when is_done (judged_handed head c r i x marking) then plain_stepped_of (handed head c r i x) (marking_from (wide_head head) marking) a
    else refused_step (judged_handed head c r i x marking)

-- the marking's bytes after it
abbrev pub plain_step_bytes : List ℕ → List ℕ → List ℕ → List ℕ → List ℕ → List ℕ → ℕ → List ℕ
plain_step_bytes head c r i x marking a = stored_of (wide_head head) (plain_step_of head c r i x marking a) marking

-- skelfora_plain_accepting: the same refusals, then those of graph and marking; 2^32 more where accepting
unfoldable pub plain_accepting_number : List ℕ → List ℕ → List ℕ → List ℕ → List ℕ → List ℕ → ℕ
plain_accepting_number head c r i x marking =
    when is_done (judged_handed head c r i x marking) then
    verdict_of (plain_accepting_of (handed head c r i x) (marking_from (wide_head head) marking)).answer 0
    (plain_accepting_of (handed head c r i x) (marking_from (wide_head head) marking)).accepting
    else packed_of (judged_handed head c r i x marking) 0

-- skelfora_plain_replay: 7 where there are too few bytes for a head, then the replay's
unfoldable pub plain_replay_number : List ℕ → List ℕ → List ℕ → List ℕ → List ℕ → List ℕ → ℕ
plain_replay_number head c r i x trace =
    when ltb (length head) (lone_head_length (wide_head head)) then blocked_of BufferTooSmall 0 false
    else blocked_of (plain_replay_of (handed head c r i x) trace).answer (plain_replay_of (handed head c r i x) trace).place.0
    (plain_replay_of (handed head c r i x) trace).accepting

-- skelfora_fill: the file's refusals, then 7 or how many pairs its relation of that number has
unfoldable pub fill_number : List ℕ → ℕ → List ℕ → ℕ
fill_number file kind memory =
    when is_done (read_of file).answer then
    packed_of (filled_of (relation_at (read_of file).graph.relations kind) memory).answer
    (filled_of (relation_at (read_of file).graph.relations kind) memory).pairs
    else packed_of (read_of file).answer 0

-- the lent memory then: as it was where refused
unfoldable pub fill_memory : List ℕ → ℕ → List ℕ → List ℕ
fill_memory file kind memory =
    when is_done (read_of file).answer then memory_after (relation_at (read_of file).graph.relations kind) memory else memory

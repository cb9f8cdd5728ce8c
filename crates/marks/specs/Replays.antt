-- All replays of a log at once, a byte for each trace (issue 25). And the words of inner contracts: what a replay on lent relations gives
-- of a part of the bytes.
use Rattle.std.specs.Prelude.{List, ◌++◌, ℕ, ltb, length, drop}
use Rattle.sets.specs.Tests.{when◌then◌else◌}
use Rattle.sets.specs.Rows.{list_from}
use Rattle.sets.specs.Answers.{number_of, is_done, then_ask}
use Rattle.sets.specs.declared.answer.Answer.{Answer}
use Rattle.sets.specs.declared.answer.Answer.TheVariants.{Done, BufferTooSmall}
use Rattle.engine.specs.Relations.{in_tables}
use Rattle.engine.specs.Replay.{replay_from, replay_of}
use Rattle.engine.specs.declared.graph.Head.{Head}
use Rattle.engine.specs.declared.graph.Graph.{Graph}
use Rattle.engine.specs.declared.replay.Replayed.{Replayed}
use Rattle.calllog.specs.Logs.{log_of, part_at}
use Rattle.marks.specs.declared.replays.Replays.{Replays}
use Rattle.marks.specs.Marks.{is_yes, trace_number, judged_both}

-- 128 where the verdict is yes, else the replay's number: 0 where it is done and not accepting
unfoldable pub replay_byte : Replayed → ℕ
replay_byte r = when is_yes r then 128 else number_of r.answer

-- a byte for each of n traces
abbrev pub replay_bytes : Graph → List ℕ → List ℕ
replay_bytes g log = list_from (length (log_of log).traces) 0 (λ k. replay_byte (replay_of g (trace_number log k)))

-- the log's refusals, the graph's, then 7 where the bytes are fewer than the traces
unfoldable pub judged_replays : Graph → List ℕ → ℕ → Answer
judged_replays g log room =
    then_ask (judged_both g log) (when ltb room (length (log_of log).traces) then BufferTooSmall else Done)

-- the answer and the number of bytes; 0 where refused
unfoldable pub replays_of : Graph → List ℕ → ℕ → Replays
replays_of g log room =
    record {
      answer = judged_replays g log room;
      traces = when is_done (judged_replays g log room) then length (log_of log).traces else 0;
    }

-- the bytes, then what was there; no byte changed where it is refused
unfoldable pub replays_after : Graph → List ℕ → List ℕ → List ℕ
replays_after g log buffer =
    when is_done (judged_replays g log (length buffer)) then replay_bytes g log ++ drop (length (log_of log).traces) buffer else buffer

-- ---- inner contracts

-- what a replay gives of part k of the bytes, whether they were judged or not
abbrev pub part_replay : Head → List ℕ → List ℕ → ℕ → Replayed
part_replay head tables log k =
    replay_from head.events (in_tables tables) head.opening.state 0 (part_at log k)

-- What the functions of src/ give: promises that join several functions of the project.
use Rattle.std.specs.Prelude.{◌≡◌, false, List, [], ◌++◌, ℕ, ltb, length, get_or, drop}
use Rattle.sets.specs.Tests.{when◌then◌else◌}
use Rattle.sets.specs.Answers.{is_done, then_ask}
use Rattle.sets.specs.declared.answer.Answer.{Answer}
use Rattle.sets.specs.declared.answer.Answer.TheVariants.{Done, BufferTooSmall}
use Rattle.sets.specs.Members.{no_set}
use Rattle.engine.specs.Markings.{empty_marking}
use Rattle.engine.specs.Relations.{empty_graph}
use Rattle.engine.specs.Replay.{ending, replay_of}
use Rattle.engine.specs.declared.graph.Graph.{Graph}
use Rattle.engine.specs.declared.replay.Replayed.{Replayed}
use Rattle.calllog.specs.Logs.{log_of, finding_of}
use Rattle.graphfile.specs.Refusals.{judged_file}
use Rattle.graphfile.specs.Writing.{judged_write}
use Rattle.graphfile.specs.declared.reader.Reading.{Reading}
use Rattle.graphfile.specs.declared.writer.Written.{Written}
use Rattle.rules.specs.declared.Profile.{Profile}
use Rattle.miner.specs.Mine.{mined_of}

-- trace k of a log; empty where there is none
abbrev pub trace_of : List ℕ → ℕ → List ℕ
trace_of log k = get_or (log_of log).traces k []

-- the replay of trace k on the graph mined of its own log in a profile; the refusals of the log, then 11, with nothing beside the number
unfoldable pub own_replay : List ℕ → Profile → ℕ → Replayed
own_replay log p k =
    when is_done (finding_of log k) then replay_of (mined_of log p).graph (trace_of log k)
    else ending (finding_of log k) 0 empty_marking false

-- what `replay_own` says of its result: the whole of it, and in plain words what follows. It is refused only where the log is, or where it has
-- no trace k; it gets to the trace's length; nothing is left pending; and it is accepting unless refused
abbrev pub OwnReplayed : List ℕ → Profile → ℕ → Replayed → Type 0
OwnReplayed log p k r =
    (r ≡ own_replay log p k)
    × ((r.answer ≡ finding_of log k)
    × ((r.place.0 ≡ length (trace_of log k))
    × ((r.marking.state.pending ≡ no_set)
    × (r.accepting ≡ is_done (finding_of log k)))))

-- a graph that was written into so many bytes and read again: the graph itself, or the refusals of the write
unfoldable pub graph_back : Graph → ℕ → Reading
graph_back g space =
    record {
      answer = judged_write g space;
      graph = when is_done (judged_write g space) then g else empty_graph;
    }

-- a file that is read and written again into so many bytes: its refusals, then 7
unfoldable pub judged_copy : List ℕ → ℕ → Answer
judged_copy file space = then_ask (judged_file file) (when ltb space (length file) then BufferTooSmall else Done)

unfoldable pub file_back : List ℕ → ℕ → Written
file_back file space =
    record {
      answer = judged_copy file space;
      length = when is_done (judged_copy file space) then length file else 0;
    }

-- the buffer after it: the file itself, then what was there; all as it was where refused
unfoldable pub file_copied : List ℕ → List ℕ → List ℕ
file_copied file buffer = when is_done (judged_copy file (length buffer)) then file ++ drop (length file) buffer else buffer

-- What the miner gives for any bytes: the log's number, and the graph of its traces in the profile; the empty graph where the log is
-- refused.
use Rattle.std.specs.Prelude.{List, ℕ}
use Rattle.sets.specs.Tests.{when◌then◌else◌}
use Rattle.sets.specs.Answers.{is_done}
use Rattle.engine.specs.Relations.{empty_graph}
use Rattle.calllog.specs.Logs.{log_of}
use Rattle.rules.specs.declared.Profile.{Profile}
use Rattle.rules.specs.Mined.{mined_graph}
use Rattle.miner.specs.declared.mining.Headed.{Headed}
use Rattle.miner.specs.declared.mining.Mined.{Mined}

unfoldable pub mined_of : List ℕ → Profile → Mined
mined_of bytes p =
    record {
      answer = (log_of bytes).answer;
      graph = when is_done (log_of bytes).answer then mined_graph (log_of bytes).activities (log_of bytes).traces p else empty_graph;
    }

-- the same without the relations
abbrev pub headed_of : List ℕ → Profile → Headed
headed_of bytes p = record { answer = (mined_of bytes p).answer; head = (mined_of bytes p).graph.head }

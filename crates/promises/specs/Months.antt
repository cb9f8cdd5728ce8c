-- 02, 12/12: what is claimed "for tallies filled from logs and their joins".
use Rattle.std.specs.Prelude.{◌≡◌, List, ℕ, ◌≤◌, take}
use Rattle.engine.specs.Markings.{opening_of}
use Rattle.engine.specs.Enabled.{graph_at}
use Rattle.engine.specs.declared.graph.Graph.{Graph}
use Rattle.rules.specs.Traces.{Traces}
use Rattle.rules.specs.Replays.{Accepted}
use Rattle.months.specs.Layout.{tally_width, tally_length}
use Rattle.months.specs.Tallies.{tally_of}
use Rattle.months.specs.declared.reading.Known.{Known}

-- a buffer with the tally of A and these traces: its first 36,864 bytes are that tally. The traces are such as accepted logs have, but for their
-- number: A is at most 64, no trace is longer than 512, and each activity is below A
pub record TallyOf (bytes : List ℕ) (A : ℕ) (L : Traces) : Type 0 where
  pub tally : take tally_length bytes ≡ tally_of A L
  pub limits : Accepted A L
  pub narrow : A ≤ tally_width

-- the graph of the relations that were read: it opens with nothing executed or pending and all events included
abbrev pub graph_read : Known → Graph
graph_read k = graph_at k.activities k.events (opening_of k.events) k.relations

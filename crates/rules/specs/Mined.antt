-- The graph mined of a log (01, the opening of "Mining, in this order", and "Graph" for its rows).
use Rattle.std.specs.Prelude.{ℕ}
use Rattle.sets.specs.Members.{those}
use Rattle.sets.specs.declared.set.Set.{Set}
use Rattle.engine.specs.Markings.{opening_of}
use Rattle.engine.specs.Relations.{Relations, tables_from}
use Rattle.engine.specs.Enabled.{graph_at}
use Rattle.engine.specs.declared.graph.Graph.{Graph}
use Rattle.rules.specs.declared.Profile.{Profile}
use Rattle.rules.specs.Traces.{Traces}
use Rattle.rules.specs.Mining.{event, mined}

-- a graph that has nothing executed or pending and all events included, with its relations put down in rows: a condition in the row of its
-- target, any other pair in the row of its source; what is enabled at the opening follows (02, 6/12)
unfoldable pub graph_from : ℕ → Set → Relations → Graph
graph_from A events r = graph_at A events (opening_of events) (tables_from r)

-- A is the log's, the events are the activities that occur, and the relations are those of the profile (02, 3/12)
unfoldable pub mined_graph : ℕ → Traces → Profile → Graph
mined_graph A L p = graph_from A (those (event L)) (mined L p)

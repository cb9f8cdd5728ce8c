-- The graph that a file holds, and what a read gives.
use Rattle.std.specs.Prelude.{List, ℕ, zero, suc}
use Rattle.sets.specs.Tests.{when◌then◌else◌}
use Rattle.sets.specs.Tables.{no_tables, with_row_in}
use Rattle.sets.specs.Answers.{is_done}
use Rattle.engine.specs.Relations.{relation_count, empty_graph}
use Rattle.engine.specs.Enabled.{graph_at}
use Rattle.engine.specs.declared.graph.Graph.{Graph}
use Rattle.graphfile.specs.declared.reader.Reading.{Reading}
use Rattle.graphfile.specs.declared.reader.Bare.{Bare}
use Rattle.engine.specs.Markings.{empty_state}
use Rattle.sets.specs.Members.{no_set}
use Rattle.graphfile.specs.Layout.{activities_in, events_in, state_in, count_in, earlier_rows, key_in, row_in}
use Rattle.graphfile.specs.Refusals.{judged_file}

-- tables, with n rows of the file put into table r, from row k on: the set at its key
unfoldable pub filled : List ℕ → List ℕ → ℕ → ℕ → ℕ → List ℕ
filled bytes tables r zero k = tables
filled bytes tables r (suc n) k = filled bytes (with_row_in tables r (key_in bytes k) (row_in bytes k)) r n (suc k)

-- the tables, where relation r has its rows too
abbrev pub with_relation : List ℕ → List ℕ → ℕ → List ℕ
with_relation bytes tables r = filled bytes tables r (count_in bytes r) (earlier_rows bytes r)

-- the tables, where the relations before r have their rows too; all four where r is 4
unfoldable pub with_relations : List ℕ → List ℕ → ℕ → List ℕ
with_relations bytes tables zero = tables
with_relations bytes tables (suc r) = with_relation bytes (with_relations bytes tables r) r

-- the relations before r by themselves
abbrev pub relations_in : List ℕ → ℕ → List ℕ
relations_in bytes r = with_relations bytes (no_tables relation_count) r

-- the graph of an accepted file, whose enabled activities follow from the rest (02, 6/12: "The graph file doesn't store it")
unfoldable pub graph_in : List ℕ → Graph
graph_in bytes = graph_at (activities_in bytes) (events_in bytes) (state_in bytes) (relations_in bytes relation_count)

-- a read without the set: the file's answer, its events and its state; nothing of them where refused
unfoldable pub bare_of : List ℕ → Bare
bare_of bytes =
    record {
      answer = judged_file bytes;
      events = when is_done (judged_file bytes) then events_in bytes else no_set;
      state = when is_done (judged_file bytes) then state_in bytes else empty_state;
    }

-- the tables lent to it: the file's rows put into them; nothing where refused
unfoldable pub bare_tables : List ℕ → List ℕ → List ℕ
bare_tables bytes tables = when is_done (judged_file bytes) then with_relations bytes tables relation_count else no_tables relation_count

-- a read: the file's answer, and its graph; the empty graph where refused (01, "Nothing else")
unfoldable pub read_of : List ℕ → Reading
read_of bytes =
    record {
      answer = judged_file bytes;
      graph = when is_done (judged_file bytes) then graph_in bytes else empty_graph;
    }

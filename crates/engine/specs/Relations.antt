-- The four relations of a DCR graph, each a test of a source and a target. The step rules and the mining rules speak of these, not of rows.
use Rattle.std.specs.Prelude.{List, ℕ, zero, suc}
use Rattle.sets.specs.Rows.{Relation, in_row}
use Rattle.sets.specs.Tables.{no_tables, table_at, tables_of}
use Rattle.sets.specs.declared.set.Set.{Set}
use Rattle.engine.specs.declared.marking.Marking.{Marking}
use Rattle.engine.specs.declared.graph.Head.{Head}
use Rattle.engine.specs.declared.graph.Graph.{Graph}
use Rattle.engine.specs.Markings.{empty_marking}
use Rattle.sets.specs.Members.{no_set}

-- conditions, responses, includes, excludes, numbered from 0
abbrev pub relation_count : ℕ
relation_count = 4

abbrev pub head_of : ℕ → Set → Marking → Head
head_of activities events opening = record { activities = activities; events = events; opening = opening }

-- a graph by its head and its tables
abbrev pub graph_of : Head → List ℕ → Graph
graph_of head tables = record { head = head; relations = tables }

-- no activity, no event, no pair
abbrev pub empty_graph : Graph
empty_graph = graph_of (head_of 0 no_set empty_marking) (no_tables relation_count)

pub record Relations : Type 0 where
  pub conditions : Relation
  pub responses : Relation
  pub includes : Relation
  pub excludes : Relation

-- what the four tables hold: for conditions the row is the target's and has its sources, else the row is the source's (01, "Graph")
abbrev pub in_tables : List ℕ → Relations
in_tables tables =
    record {
      conditions = λ s t. in_row (table_at tables 0) t s;
      responses = in_row (table_at tables 1);
      includes = in_row (table_at tables 2);
      excludes = in_row (table_at tables 3);
    }

-- the other way: relation k as its table holds it, row by row
abbrev pub kept : Relations → ℕ → Relation
kept r zero = λ t s. r.conditions s t
kept r (suc zero) = r.responses
kept r (suc (suc zero)) = r.includes
kept r (suc (suc (suc k))) = r.excludes

abbrev pub tables_from : Relations → List ℕ
tables_from r = tables_of relation_count (kept r)

abbrev pub relations_of : Graph → Relations
relations_of g = in_tables g.relations

-- When a graph that is handed over as a value, and a marking beside it, are refused (01, "Numbers given back": 3, then 5;
-- 02, 6/12: then 16).
use Rattle.std.specs.Prelude.{Bool, false, List, ℕ, ltb}
use Rattle.sets.specs.Sizes.{most_activities, longest_trace}
use Rattle.sets.specs.Tests.{◌and◌, ◌or◌, non, when◌then◌else◌}
use Rattle.sets.specs.Members.{width, mem, those, every_below, is_empty, within}
use Rattle.sets.specs.Rows.{row_at}
use Rattle.sets.specs.Tables.{table_at}
use Rattle.sets.specs.declared.set.Set.{Set}
use Rattle.sets.specs.declared.answer.Answer.{Answer}
use Rattle.sets.specs.declared.answer.Answer.TheVariants.{Done, AboveLimit, Outside, FalseEnabled}
use Rattle.engine.specs.declared.marking.State.{State}
use Rattle.engine.specs.declared.marking.Marking.{Marking}
use Rattle.engine.specs.declared.graph.Head.{Head}
use Rattle.engine.specs.declared.graph.Graph.{Graph}
use Rattle.engine.specs.Relations.{Relations, relation_count, relations_of}
use Rattle.engine.specs.Enabled.{is_true}

-- executed, pending and included are within the events; of a marking no more is asked here (02, 6/12: "an enabled set that leaves the events
-- is a false one")
unfoldable pub state_within : Set → State → Bool
state_within events s = within s.executed events and within s.pending events and within s.included events

-- the row s of a is within the events, and where it is not empty a is an event
unfoldable pub row_within : Set → ℕ → Set → Bool
row_within events a s = within s events and (mem events a or is_empty s)

-- each row of a relation is
unfoldable pub rows_within : Set → List ℕ → Bool
rows_within events rows = every_below width (λ a. row_within events a (row_at rows a))

-- all four relations are
unfoldable pub relations_within : Set → List ℕ → Bool
relations_within events tables = every_below relation_count (λ k. rows_within events (table_at tables k))

-- each event is below A, and the opening marking is within the events: what any graph is asked, however it keeps its relations
abbrev pub head_within : Head → Bool
head_within head = within head.events (those (λ a. ltb a head.activities)) and state_within head.events head.opening.state

-- and the relations are too
unfoldable pub graph_within : Graph → Bool
graph_within g = head_within g.head and relations_within g.head.events g.relations

-- a marking is true on the graph
abbrev pub true_on : Graph → Marking → Bool
true_on g m = is_true g.head.events (relations_of g) m

-- 3 where something is above its limit, then 5 where not all is within the events, then 16 where not every marking is true: all 5s come before
-- any 16
unfoldable pub found : Bool → Bool → Bool → Answer
found above inside truthful = when above then AboveLimit else when non inside then Outside else when non truthful then FalseEnabled else Done

-- the graph, with the length of a trace beside it
unfoldable pub judged_for : Graph → ℕ → Answer
judged_for g length =
    found (ltb most_activities g.head.activities or ltb longest_trace length) (graph_within g) (true_on g g.head.opening)

-- the graph alone
abbrev pub judged : Graph → Answer
judged g = judged_for g 0

-- the graph, with a marking beside it
unfoldable pub judged_with : Graph → Marking → Answer
judged_with g m =
    found (ltb most_activities g.head.activities) (graph_within g and state_within g.head.events m.state)
    (true_on g g.head.opening and true_on g m)

-- a marking beside a graph that was judged before: what is left of that, 5 and then 16
unfoldable pub judged_beside : Set → Relations → Marking → Answer
judged_beside events r m = found false (state_within events m.state) (is_true events r m)

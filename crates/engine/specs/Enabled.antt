-- The enabled activities, kept with the marking (02, 6/12): "it is always the set of events that enabled would say yes to".
use Rattle.std.specs.Prelude.{Bool, List, ℕ}
use Rattle.sets.specs.Tests.{◌and◌}
use Rattle.sets.specs.Members.{those, within}
use Rattle.sets.specs.Answers.{is_done}
use Rattle.sets.specs.declared.set.Set.{Set}
use Rattle.engine.specs.declared.marking.State.{State}
use Rattle.engine.specs.declared.marking.Marking.{Marking}
use Rattle.engine.specs.declared.graph.Graph.{Graph}
use Rattle.engine.specs.Markings.{marking_of}
use Rattle.engine.specs.Relations.{Relations, head_of, graph_of, in_tables}
use Rattle.engine.specs.Steps.{enabled}

-- those to which the step rules say yes
unfoldable pub enabled_set : Set → Relations → State → Set
enabled_set events r s = those (λ e. is_done (enabled events r s e))

-- the marking with that set beside what was executed, is pending and is included
abbrev pub marked : Set → Relations → State → Marking
marked events r s = marking_of s (enabled_set events r s)

-- a graph of these tables that opens at a state: its marking is the state's
abbrev pub graph_at : ℕ → Set → State → List ℕ → Graph
graph_at A events s tables = graph_of (head_of A events (marked events (in_tables tables) s)) tables

-- a marking is true where its set has just those members; one that leaves the events is false
unfoldable pub is_true : Set → Relations → Marking → Bool
is_true events r m = within m.enabled (enabled_set events r m.state) and within (enabled_set events r m.state) m.enabled

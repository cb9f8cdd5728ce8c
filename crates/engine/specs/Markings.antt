-- Markings (01, "Sizes": each kind has its own fixed values; "Mining": the opening marking; 02, 6/12: the set of enabled activities is kept
-- with what was executed, is pending and is included). What that set must be is said in Enabled.
use Rattle.sets.specs.declared.set.Set.{Set}
use Rattle.sets.specs.Members.{no_set}
use Rattle.engine.specs.declared.marking.State.{State}
use Rattle.engine.specs.declared.marking.Marking.{Marking}

abbrev pub state_of : Set → Set → Set → State
state_of executed pending included = record { executed = executed; pending = pending; included = included }

abbrev pub empty_state : State
empty_state = state_of no_set no_set no_set

-- nothing executed or pending, all events included
abbrev pub opening_of : Set → State
opening_of events = state_of no_set no_set events

abbrev pub marking_of : State → Set → Marking
marking_of state enabled = record { state = state; enabled = enabled }

abbrev pub empty_marking : Marking
empty_marking = marking_of empty_state no_set

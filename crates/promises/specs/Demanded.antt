-- What the demands say, where it takes more than a line. The theorems are in proofs/Demands.antt.
use Rattle.std.specs.Prelude.{◌≡◌, true, false, List, ℕ, ◌<◌, eqb, length, get_or, take}
use Rattle.sets.specs.Tests.{◌and◌, ◌or◌, non}
use Rattle.sets.specs.Members.{width, mem}
use Rattle.sets.specs.Answers.{number_of, blocker_of, is_done}
use Rattle.sets.specs.declared.set.Set.{Set}
use Rattle.sets.specs.declared.answer.Answer.{Answer}
use Rattle.sets.specs.declared.answer.Answer.TheVariants.{Done}
use Rattle.sets.specs.Members.{no_set}
use Rattle.engine.specs.Markings.{opening_of}
use Rattle.engine.specs.Enabled.{marked}
use Rattle.engine.specs.Relations.{Relations, relations_of}
use Rattle.engine.specs.Steps.{enabled, accepting}
use Rattle.engine.specs.Replay.{replay_from}
use Rattle.engine.specs.declared.marking.State.{State}
use Rattle.engine.specs.declared.graph.Graph.{Graph}
use Rattle.engine.specs.declared.replay.Replayed.{Replayed}
use Rattle.rules.specs.Traces.{Traces}
use Rattle.rules.specs.Mining.{event}

-- an answer other than done
abbrev pub Refused : Answer → Type 0
Refused a = is_done a ≡ false

-- DEMAND 2, the graph of relations that the rules give for these traces: A is the log's; an activity is an event where the rules say so; nothing
-- is executed or pending and all events are included; and a pair, source first, is in a relation of the graph exactly where the rules leave
-- it, whatever the two numbers. Of a mined graph they are `mined L p`, what the steps of the profile leave
pub record PairForPair (A : ℕ) (L : Traces) (rules : Relations) (g : Graph) : Type 0 where
  pub activities : g.head.activities ≡ A
  pub events : (a : ℕ) → mem g.head.events a ≡ event L a
  pub opening : g.head.opening ≡ marked g.head.events (relations_of g) (opening_of g.head.events)
  pub conditions : (s t : ℕ) → (relations_of g).conditions s t ≡ rules.conditions s t
  pub responses : (s t : ℕ) → (relations_of g).responses s t ≡ rules.responses s t
  pub includes : (s t : ℕ) → (relations_of g).includes s t ≡ rules.includes s t
  pub excludes : (s t : ℕ) → (relations_of g).excludes s t ≡ rules.excludes s t

-- DEMAND 2, a step that is done: the marking after it, member by member of executed, pending and included (01, "A step")
pub record Stepping (r : Relations) (m : State) (e : ℕ) (n : State) : Type 0 where
  pub executed : (a : ℕ) → a < width → mem n.executed a ≡ (mem m.executed a or eqb a e)
  pub pending : (a : ℕ) → a < width → mem n.pending a ≡ (mem m.pending a and non (eqb a e) or r.responses e a)
  pub included : (a : ℕ) → a < width → mem n.included a ≡ (mem m.included a and non (r.excludes e a) or r.includes e a)

-- 02, 2/12, b blocks e: it is a condition source of e, included and not executed, and no smaller activity is all three
pub record Blocks (r : Relations) (m : State) (e b : ℕ) : Type 0 where
  pub source : r.conditions b e ≡ true
  pub included : mem m.included b ≡ true
  pub not-executed : mem m.executed b ≡ false
  pub smallest : (a : ℕ) → a < b → r.conditions a e ≡ true → mem m.included a ≡ true → mem m.executed a ≡ false → ⊥

-- an answer to e that carries its blocker beside 10, and 255 beside every other number
pub record Carries (r : Relations) (m : State) (e : ℕ) (a : Answer) : Type 0 where
  pub beside-10 : number_of a ≡ 10 → Blocks r m e (blocker_of a)
  pub beside-others : (number_of a ≡ 10 → ⊥) → blocker_of a ≡ 255

-- a replay of a trace, from the opening state of a graph that is not refused
module _ (events : Set) (r : Relations) (opening : State) (trace : List ℕ) where
  -- the first n events alone
  abbrev pub up_to : ℕ → Replayed
  up_to n = replay_from events r opening 0 (take n trace)

  -- every event is enabled in its turn: at the marking that the events before it lead to
  pub record InTurn : Type 0 where
    pub earlier : (n : ℕ) → n < length trace → (up_to n).answer ≡ Done
    pub enabled-then : (n : ℕ) → n < length trace → enabled events r (up_to n).marking.state (get_or trace n 0) ≡ Done

  -- it stops at the first refusal: at the place of an event, where all events before it were done; that event is refused, with the number
  -- given back, at the marking given back, which is the one that they lead to
  pub record StopsAt (end : Replayed) : Type 0 where
    pub within-trace : end.place.0 < length trace
    pub earlier : (up_to end.place.0).answer ≡ Done
    pub marking-then : (up_to end.place.0).marking ≡ end.marking
    pub refusal : enabled events r end.marking.state (get_or trace end.place.0 0) ≡ end.answer
    pub not-accepting : end.accepting ≡ false

  -- it goes through: to the trace's length, every event enabled in its turn, and accepting as the marking then is
  pub record GoesThrough (end : Replayed) : Type 0 where
    pub at-end : end.place.0 ≡ length trace
    pub in-turn : InTurn
    pub accepting-then : end.accepting ≡ accepting end.marking.state

-- DEMAND 3, a replay that settles: it is done, it got to the trace's length, no step is pending at all, and it is accepting
pub record Settles (n : ℕ) (end : Replayed) : Type 0 where
  pub done : number_of end.answer ≡ 0
  pub whole : end.place.0 ≡ n
  pub settled : end.marking.state.pending ≡ no_set
  pub accepted : end.accepting ≡ true

-- Graphs, logs and results as 01 writes them down: a relation by its pairs, a set by its members. For the tables of worked cases.
use mathlib.Core.Bool.{Bool, false}
use mathlib.Core.List.{List, [], ◌∷◌, ◌++◌}
use Prim.Native.Nat.{ℕ}
use lib.Dec.{eqb}
use lib.ListN.{get_or, replicate}
use Rattle.sets.specs.Tests.{◌and◌, ◌or◌, when◌then◌else◌}
use Rattle.sets.specs.Members.{width, those}
use Rattle.sets.specs.Rows.{Relation, list_from}
use Rattle.sets.specs.Answers.{number_of, blocker_of}
use Rattle.sets.specs.declared.set.Set.{Set}
use Rattle.engine.specs.declared.marking.Marking.{Marking}
use Rattle.engine.specs.declared.graph.Graph.{Graph}
use Rattle.engine.specs.declared.step.Stepped.{Stepped}
use Rattle.engine.specs.declared.replay.Replayed.{Replayed}
use Rattle.engine.specs.Markings.{state_of}
use Rattle.engine.specs.Relations.{tables_from}
use Rattle.engine.specs.Enabled.{graph_at}
use Rattle.engine.specs.Replay.{replay_of, stepped_of}
use Rattle.calllog.specs.Logs.{log_of}
use Rattle.rules.specs.declared.Profile.{Profile}
use Rattle.rules.specs.Traces.{Traces, ◌has◌}
use Rattle.rules.specs.Mined.{mined_graph}

infix 80 ◌to◌
infix 75 ◌gives◌
infix 75 ◌are◌
-- a pair, source and target
pub data Pair : Type 0 where
  ◌to◌ : ℕ → ℕ → Pair

-- the relation that has the pairs
abbrev pub one_of : List Pair → Relation
one_of [] s t = false
one_of ((a to b) ∷ ps) s t = eqb a s and eqb b t or one_of ps s t

-- the set that has the members
abbrev pub set_of : List ℕ → Set
set_of xs = those (λ a. xs has a)

-- A, the events, and the pairs of the four relations as in a listing: C, R, I, E
abbrev pub listed : ℕ → List ℕ → List Pair → List Pair → List Pair → List Pair → Graph
listed A events c r i e =
    graph_at A (set_of events) (state_of (set_of []) (set_of []) (set_of events))
    (tables_from (record { conditions = one_of c; responses = one_of r; includes = one_of i; excludes = one_of e }))

-- the first rows, each as the number of its low word; the others are empty, and so are all high words
abbrev pub rows : List ℕ → List ℕ
rows xs = list_from width 0 (λ a. get_or xs a 0) ++ replicate width 0

-- ---- a table: what is asked, and what it gives

pub data Asked : Type 0 where
  reading : List ℕ → Asked
  mining : ℕ → Traces → Profile → Asked
  replaying : Graph → List ℕ → Asked
  stepping : Graph → Marking → ℕ → Asked

pub data Given : Type 0 where
  -- the number, A, and the traces
  log : ℕ → ℕ → Traces → Given
  graph : Graph → Given
  -- the number, the blocker, the place, and accepting
  ended : ℕ → ℕ → ℕ → Bool → Given
  -- the number, the blocker, and the marking
  stepped : ℕ → ℕ → Marking → Given

abbrev pub end : Replayed → Given
end r = ended (number_of r.answer) (blocker_of r.answer) r.place.0 r.accepting

abbrev pub step : Stepped → Given
step r = stepped (number_of r.answer) (blocker_of r.answer) r.marking

abbrev pub answered : Asked → Given
answered (reading bytes) = log (number_of (log_of bytes).answer) (log_of bytes).activities (log_of bytes).traces
answered (mining A L p) = graph (mined_graph A L p)
answered (replaying g σ) = end (replay_of g σ)
answered (stepping g m e) = step (stepped_of g m e)

pub data Case : Type 0 where
  ◌gives◌ : Asked → Given → Case

abbrev pub asked : Case → Given
asked (q gives a) = answered q

abbrev pub wanted : Case → Given
wanted (q gives a) = a

-- ---- a relation as the list of its pairs, rising by source, then target

-- of the pairs with source s and a target among ts, those that stand
abbrev pub targets : Relation → ℕ → List ℕ → List Pair
targets r s [] = []
targets r s (t ∷ ts) = when r s t then s to t ∷ targets r s ts else targets r s ts

abbrev pub sources : Relation → List ℕ → List ℕ → List Pair
sources r [] ts = []
sources r (s ∷ ss) ts = targets r s ts ++ sources r ss ts

-- the pairs of activities below A
abbrev pub pairs : ℕ → Relation → List Pair
pairs A r = sources r (list_from A 0 (λ a. a)) (list_from A 0 (λ a. a))

-- a table of relations: the pairs found, and those meant
pub data Claim : Type 0 where
  ◌are◌ : List Pair → List Pair → Claim

abbrev pub found : Claim → List Pair
found (ps are qs) = ps

abbrev pub meant : Claim → List Pair
meant (ps are qs) = qs

-- What can be asked of a trace and of a log. A trace is the list of its activities, the first in front; a log is the list of its traces.
use Rattle.std.specs.Prelude.{Bool, true, false, List, [], ◌∷◌, ℕ, eqb}
use Rattle.sets.specs.Tests.{◌and◌, ◌or◌, non}

abbrev pub Traces : Type 0
Traces = List (List ℕ)

infix 40 ◌has◌
infix 40 ◌begins_with◌
-- x stands in the list
unfoldable pub ◌has◌ : List ℕ → ℕ → Bool
[] has x = false
(y ∷ ys) has x = eqb x y or ys has x

-- x stands at the front of the list
unfoldable pub ◌begins_with◌ : List ℕ → ℕ → Bool
[] begins_with x = false
(y ∷ ys) begins_with x = eqb x y

-- A place of a trace is known by its past, what stands before it, and its rest, what stands after it. Both are lists with the nearest in
-- front, so what stands directly before a place is what its past begins with.

-- at every place where t stands, p of its past and its rest
unfoldable pub at_each_from : ℕ → (List ℕ → List ℕ → Bool) → List ℕ → List ℕ → Bool
at_each_from t p past [] = true
at_each_from t p past (x ∷ rest) = (non (eqb t x) or p past rest) and at_each_from t p (x ∷ past) rest

abbrev pub at_each : ℕ → (List ℕ → List ℕ → Bool) → List ℕ → Bool
at_each t p σ = at_each_from t p [] σ

-- at some place where t stands, p of its past and its rest
unfoldable pub at_some_from : ℕ → (List ℕ → List ℕ → Bool) → List ℕ → List ℕ → Bool
at_some_from t p past [] = false
at_some_from t p past (x ∷ rest) = eqb t x and p past rest or at_some_from t p (x ∷ past) rest

abbrev pub at_some : ℕ → (List ℕ → List ℕ → Bool) → List ℕ → Bool
at_some t p σ = at_some_from t p [] σ

-- every trace of the log passes
unfoldable pub every_trace : Traces → (List ℕ → Bool) → Bool
every_trace [] p = true
every_trace (σ ∷ L) p = p σ and every_trace L p

-- some trace of the log passes
unfoldable pub some_trace : Traces → (List ℕ → Bool) → Bool
some_trace [] p = false
some_trace (σ ∷ L) p = p σ or some_trace L p

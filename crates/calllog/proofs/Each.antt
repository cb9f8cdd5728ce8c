-- The limits of a log for a trace that is among its traces, and for an event that is in the trace. Assumes nothing.
use mathlib.Core.Path.{◌≡◌, sym, subst}
use mathlib.Core.List.Memᴰ
use mathlib.Core.List.{List, [], ◌∷◌, Memᴰ}
use mathlib.Core.Logic.{◌⊎◌, inl, inr}
use Prim.Native.Nat.{ℕ, suc, ◌<◌, suc-le-suc}
use native.Mathlib.Nat.{zero-lt-suc}
use lib.Dec.{T, ltb, ltb→lt}
use lib.ListN.{length, get_or}
use Rattle.sets.proofs.Tests.{and_l, and_r, true→T}
use Rattle.calllog.specs.Judged.{all_below}
use Rattle.calllog.specs.Logs.{log_of}
use Rattle.calllog.proofs.Traces.{read-within}

-- a trace that is among the traces has a number
pub number-of_lem : (ts : List (List ℕ)) (t : List ℕ) → Memᴰ t ts → (k : ℕ) × (k < length ts) × (t ≡ get_or ts k [])
number-of_lem [] t m = absurd (Memᴰ.not-nil m)
number-of_lem (s ∷ ts) t m = go (Memᴰ.cases_cons m) (λ h. number-of_lem ts t h)
  where
    go : (t ≡ s) ⊎ Memᴰ t ts → (Memᴰ t ts → (k : ℕ) × (k < length ts) × (t ≡ get_or ts k []))
        → (k : ℕ) × (k < suc (length ts)) × (t ≡ get_or (s ∷ ts) k [])
    go (inl e) ih = (0, zero-lt-suc _, e)
    go (inr h) ih = let r = ih h in (suc r.0, suc-le-suc r.1, r.2)

below_of : (a : ℕ) (xs : List ℕ) (x : ℕ) → T (all_below a xs) → Memᴰ x xs → x < a
unfolding all_below
below_of a [] x t m = absurd (Memᴰ.not-nil m)
below_of a (y ∷ xs) x t m = go (Memᴰ.cases_cons m) (λ h. below_of a xs x (and_r (ltb y a) _ t) h)
  where
    go : (x ≡ y) ⊎ Memᴰ x xs → (Memᴰ x xs → x < a) → x < a
    go (inl e) ih = subst (λ (z : ℕ). z < a) (sym e) (ltb→lt y a (and_l (ltb y a) _ t))
    go (inr h) ih = ih h

module _ (bytes t : List ℕ) (m : Memᴰ t (log_of bytes).traces) where
  pub event-below : (x : ℕ) → Memᴰ x t → x < (log_of bytes).activities
  event-below x h =
      let r = number-of_lem (log_of bytes).traces t m in
      below_of (log_of bytes).activities t x
      (subst (λ (y : List ℕ). T (all_below (log_of bytes).activities y)) (sym r.2) (true→T ((read-within bytes).below r.0 r.1)))
      h

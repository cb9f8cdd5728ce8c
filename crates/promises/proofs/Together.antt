-- The traces of two logs taken together: what they are asked is asked of the one or of the other. Assumes nothing.
use mathlib.Core.Path.{◌≡◌, sym, ap, ◌∙◌}
use mathlib.Core.Bool.{Bool}
use mathlib.Core.Logic.{◌⊎◌, inl, inr}
use mathlib.Core.List.{List, [], ◌∷◌, ◌++◌, Memᴰ}
use Prim.Native.Nat.{ℕ}
use Rattle.sets.specs.Tests.{◌and◌, ◌or◌, non}
use Rattle.sets.proofs.Tests.{or_assoc, and_assoc, non-and, true-and, false-or, either}
use Rattle.rules.specs.Traces.{Traces, every_trace, some_trace}

module _ {σ : List ℕ} where
  pub of_one : (L M : Traces) → Memᴰ σ L → Memᴰ σ (L ++ M)
  of_one [] M m = elim m [ ]
  of_one (τ ∷ L) M (Memᴰ.head e) = Memᴰ.head e
  of_one (τ ∷ L) M (Memᴰ.tail m) = Memᴰ.tail (of_one L M m)

  pub of_other : (L M : Traces) → Memᴰ σ M → Memᴰ σ (L ++ M)
  of_other [] M m = m
  of_other (τ ∷ L) M m = Memᴰ.tail (of_other L M m)

  pub of_either : (L M : Traces) → Memᴰ σ (L ++ M) → Memᴰ σ L ⊎ Memᴰ σ M
  of_either [] M m = inr m
  of_either (τ ∷ L) M (Memᴰ.head e) = inl (Memᴰ.head e)
  of_either (τ ∷ L) M (Memᴰ.tail m) = either (of_either L M m) (λ a. inl (Memᴰ.tail a)) (λ b. inr b)

module _ (q : List ℕ → Bool) where
  pub some-together : (L M : Traces) → some_trace (L ++ M) q ≡ (some_trace L q or some_trace M q)
  unfolding some_trace
  some-together [] M = sym (false-or (some_trace M q))
  some-together (σ ∷ L) M =
      ap (λ (b : Bool). q σ or b) (some-together L M) ∙ sym (or_assoc (q σ) (some_trace L q) (some_trace M q))

  every-together : (L M : Traces) → every_trace (L ++ M) q ≡ (every_trace L q and every_trace M q)
  unfolding every_trace
  every-together [] M = sym (true-and (every_trace M q))
  every-together (σ ∷ L) M =
      ap (λ (b : Bool). q σ and b) (every-together L M) ∙ sym (and_assoc (q σ) (every_trace L q) (every_trace M q))

  -- what breaks a rule in one of them breaks it in both
  pub broken-together : (L M : Traces) → non (every_trace (L ++ M) q) ≡ (non (every_trace L q) or non (every_trace M q))
  broken-together L M = ap non (every-together L M) ∙ non-and (every_trace L q) (every_trace M q)

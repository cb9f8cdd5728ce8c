-- 02, 12/12: "the same set of non-empty traces, in any order and however often each is repeated".
use mathlib.Core.List.{List, ◌∷◌, Memᴰ}
use Rattle.std.specs.Prelude.{ℕ}
use Rattle.rules.specs.Traces.{Traces}

-- each non-empty trace of one log is a trace of the other, and back
pub record SameTraces (L M : Traces) : Type 0 where
  pub there : (x : ℕ) (σ : List ℕ) → Memᴰ (x ∷ σ) L → Memᴰ (x ∷ σ) M
  pub back : (x : ℕ) (σ : List ℕ) → Memᴰ (x ∷ σ) M → Memᴰ (x ∷ σ) L

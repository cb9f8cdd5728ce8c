-- Whether so many bytes are left from a place on. Assumes nothing.
use mathlib.Core.Path.{◌≡◌, refl, sym, ◌∙◌}
use mathlib.Core.Bool.{Bool, true, false}
use mathlib.Core.List.{List}
use Prim.Native.Nat.{ℕ, ◌+◌, ◌-◌, ◌≤◌, ◌<◌}
use native.Mathlib.Omega.{arith}
use borrow.Author.Tests.{lt-ltb, le-ltb, ltb-true, ltb-false}
use lib.Dec.{ltb}
use lib.ListN.{length}
use Rattle.sets.proofs.Tests.{split, either, T→true, F→false}

pub few-whole : (length at n : ℕ) → length < n → true ≡ ltb length (at + n)
few-whole length at n h = sym (lt-ltb length (at + n) (omega arith))

pub few-rest : (length at n : ℕ) → n ≤ length → ltb (length - n) at ≡ ltb length (at + n)
few-rest length at n h = by (ltb (length - n) at) refl
  where
    by : (t : Bool) → ltb (length - n) at ≡ t → t ≡ ltb length (at + n)
    by true e = let l = ltb-true (length - n) at e in sym (lt-ltb length (at + n) (omega arith))
    by false e = let l = ltb-false (length - n) at e in sym (le-ltb length (at + n) (omega arith))

module _ (bytes : List ℕ) (at n : ℕ) (few : Bool) (e : few ≡ ltb (length bytes) (at + n)) where
  pub room : few ≡ false → at + n ≤ length bytes
  room h = ltb-false (length bytes) (at + n) (sym e ∙ h)

  pub room-not : few ≡ false → at + n ≤ length bytes
  room-not h = room (h)

pub ruleset rooms = (few-whole, few-rest, room, room-not)

-- there is room, or there is none
pub ways : (P : Type 0) (bytes : List ℕ) (at n : ℕ) → (at + n ≤ length bytes → P) → (length bytes < at + n → P) → P
ways P bytes at n there missing =
    either (split (ltb (length bytes) (at + n)))
    (λ t. missing (ltb-true (length bytes) (at + n) (T→true _ t)))
    (λ f. there (ltb-false (length bytes) (at + n) (F→false _ f)))

-- Ways through a chain of tests: each way out of the code gives the value that the definition has there. Assumes nothing.
use mathlib.Core.Path.{◌≡◌, sym, ap, ◌∙◌}
use mathlib.Core.Bool.{Bool, true, false, not}
use Prim.Native.Nat.{ℕ, ◌+◌, ◌≤◌, ◌<◌}
use native.Mathlib.Omega.{arith}
use borrow.Author.Count.{below_more}
use borrow.Author.Tests.{lt-ltb, le-ltb}
use lib.Dec.{T, ltb}
use Rattle.sets.specs.Tests.{◌and◌, ◌or◌, non, when◌then◌else◌}
use Rattle.sets.specs.Members.{every_below}
use Rattle.sets.proofs.Tests.{T→true, true→T, F→false, false→F}
use Rattle.sets.proofs.Below.{every-i, every-e}

-- ---- what a branch tells of the test

pub failed : (a r : Bool) → r ≡ a → r ≡ false → false ≡ a
failed a r h t = sym t ∙ h

pub held : (a r : Bool) → r ≡ a → r ≡ true → true ≡ a
held a r h t = sym t ∙ h

pub is-so : (a r s : Bool) → r ≡ a → r ≡ s → s ≡ a
is-so a r s h t = sym t ∙ h

pub was_not : (a r : Bool) → not r ≡ a → r ≡ false → true ≡ a
was_not a r h t = sym (ap not t) ∙ h

pub was_so : (a r : Bool) → not r ≡ a → r ≡ true → false ≡ a
was_so a r h t = sym (ap not t) ∙ h

pub above : (a b : ℕ) → a < b → true ≡ ltb a b
above a b l = sym (lt-ltb a b l)

pub not-above : (a b : ℕ) → b ≤ a → false ≡ ltb a b
not-above a b l = sym (le-ltb a b l)

-- ---- a conjunction stops at the first part that fails

pub stops-l : (a b : Bool) → false ≡ a → false ≡ (a and b)
unfolding ◌and◌
stops-l a b h = ap (λ (x : Bool). x and b) h

pub goes : (a b s : Bool) → true ≡ a → s ≡ b → s ≡ (a and b)
unfolding ◌and◌
goes a b s h k = k ∙ ap (λ (x : Bool). x and b) h

pub or_left : (a b : Bool) → true ≡ a → true ≡ (a or b)
unfolding ◌or◌
or_left a b h = ap (λ (x : Bool). x or b) h

pub or-goes : (a b s : Bool) → false ≡ a → s ≡ b → s ≡ (a or b)
unfolding ◌or◌
or-goes a b s h k = k ∙ ap (λ (x : Bool). x or b) h

pub non-holds : (a : Bool) → false ≡ a → true ≡ non a
unfolding non
non-holds a h = ap non h

pub non-fails : (a : Bool) → true ≡ a → false ≡ non a
unfolding non
non-fails a h = ap non h

-- ---- one value or another

pub taken : {A : Type 0} (t : Bool) (x y z : A) → true ≡ t → z ≡ x → z ≡ when t then x else y
taken t x y z h k = k ∙ ap (λ (b : Bool). when b then x else y) h

pub passed-by : {A : Type 0} (t : Bool) (x y z : A) → false ≡ t → z ≡ y → z ≡ when t then x else y
passed-by t x y z h k = k ∙ ap (λ (b : Bool). when b then x else y) h

pub ruleset choice = (failed, held, is-so, was_not, was_so, above, not-above, non-holds, non-fails, taken, passed-by)

pub ruleset conjunction = (failed, held, is-so, was_not, was_so, stops-l, goes, or_left, or-goes)

-- ---- a loop that asks every number below w in turn: `while i < w { if !test(i) { return false; } i += 1; } true`

-- the numbers below i have passed
abbrev pub passed : (ℕ → Bool) → ℕ → Type 0
passed p i = (a : ℕ) → a < i → T (p a)

module _ (p : ℕ → Bool) (i : ℕ) where
  pub every_more : (r : Bool) → r ≡ p i → r ≡ true → passed p i → passed p (i + 1)
  every_more r h t inv = below_more (λ a. T (p a)) i inv (true→T (sym (held (p i) r h t)))

  pub every-stop : (w : ℕ) (r : Bool) → i < w → r ≡ p i → r ≡ false → false ≡ every_below w p
  every-stop w r l h t = sym (F→false _ (λ all. false→F (sym (failed (p i) r h t)) (every-e w p all i l)))

  pub every-end : (w : ℕ) → w ≤ i → passed p i → true ≡ every_below w p
  every-end w l inv = sym (T→true _ (every-i w p (λ a h. inv a (omega arith))))

pub ruleset every-turn = (every_more, every-stop, every-end)

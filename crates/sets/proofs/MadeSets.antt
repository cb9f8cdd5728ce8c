-- Sets made of sets: what has the members that are known of the parts. Assumes nothing.
use Rattle.sets.specs.Members.{no_set}
use mathlib.Core.Path.{◌≡◌, sym, ap, ap₂, ◌∙◌}
use mathlib.Core.Bool.{Bool, true, false}
use mathlib.Core.List.{List}
use Prim.Native.Nat.{ℕ, ◌<◌}
use Rattle.sets.specs.Tests.{◌and◌, non}
use Rattle.sets.specs.Members.{width, mem, those}
use Rattle.sets.specs.Rows.{row_at, in_row}
use Rattle.sets.specs.declared.set.Set.{Set}
use Rattle.sets.proofs.Tests.{true-and, false-and, and-true, and-false}
use Rattle.sets.proofs.Members.{those-ext, mem-those, none-those}

-- the members of s are those that pass
abbrev pub Is : Set → (ℕ → Bool) → Type 0
Is s p = (a : ℕ) → a < width → mem s a ≡ p a

pub is-those : (s : Set) (p : ℕ → Bool) → s ≡ those p → Is s p
is-those s p e a l = ap (λ (u : Set). mem u a) e ∙ mem-those p a l

pub is_row : (s : Set) (rows : List ℕ) (k : ℕ) → s ≡ row_at rows k → Is s (in_row rows k)
unfolding in_row
is_row s rows k e a l = ap (λ (u : Set). mem u a) e

pub joined : (op : Bool → Bool → Bool) (s t u : Set) (p q : ℕ → Bool) → Is s p → Is t q → u ≡ those (λ a. op (mem s a) (mem t a))
    → u ≡ those (λ a. op (p a) (q a))
joined op s t u p q hs ht hu = hu ∙ those-ext (λ a. op (mem s a) (mem t a)) (λ a. op (p a) (q a)) (λ a l. ap₂ op (hs a l) (ht a l))

-- a set of nothing
pub none : (p : ℕ → Bool) → ((a : ℕ) → a < width → p a ≡ false) → ◌≡◌ {A = Set} no_set (those p)
none p e = none-those p e

pub without : (s u : Set) (p : ℕ → Bool) → Is s p → u ≡ those (λ a. non (mem s a)) → u ≡ those (λ a. non (p a))
without s u p hs hu = hu ∙ those-ext (λ a. non (mem s a)) (λ a. non (p a)) (λ a l. ap non (hs a l))

-- s without t
pub less : (s t u : Set) (p q : ℕ → Bool) → Is s p → Is t q → u ≡ those (λ a. mem s a and non (mem t a)) → u ≡ those (λ a. p a and non (q a))
less = joined (λ x y. x and non y)

-- a set where a test was true, and none where it was false; and the other way round
module _ (r t : Bool) (e : r ≡ t) (p : ℕ → Bool) where
  pub where-true : (s : Set) → s ≡ those p → r ≡ true → s ≡ those (λ x. t and p x)
  where-true s h y = h ∙ those-ext p (λ x. t and p x) (λ x l. sym (true-and (p x)) ∙ ap (λ (b : Bool). b and p x) (sym y ∙ e))

  pub where-false : r ≡ false → ◌≡◌ {A = Set} no_set (those (λ x. t and p x))
  where-false n = none (λ x. t and p x) (λ x l. ap (λ (b : Bool). b and p x) (sym e ∙ n) ∙ false-and (p x))

  pub unless-true : r ≡ true → ◌≡◌ {A = Set} no_set (those (λ x. p x and non t))
  unfolding non
  unless-true y = none (λ x. p x and non t) (λ x l. ap (λ (b : Bool). p x and non b) (sym e ∙ y) ∙ and-false (p x))

  pub unless-false : (s : Set) → s ≡ those p → r ≡ false → s ≡ those (λ x. p x and non t)
  unfolding non
  unless-false s h n = h ∙ those-ext p (λ x. p x and non t) (λ x l. sym (and-true (p x)) ∙ ap (λ (b : Bool). p x and non b) (sym n ∙ e))

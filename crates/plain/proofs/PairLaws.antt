-- Lists of pairs: what stands in one, and a walk through it. Assumes nothing.
use mathlib.Core.Path.{◌≡◌, refl, sym, ap, ◌∙◌, subst}
use mathlib.Core.Bool.{Bool, true, false, not, ◌&&◌}
use mathlib.Core.List.{List, [], ◌∷◌}
use Prim.Native.Nat.{ℕ, ◌<◌}
use native.Mathlib.Omega.{arith}
use borrow.Author.Tests.{eq-eqb, ne_eqb}
use lib.Dec.{T, eqb, eqb→eq, eqb_refl}
use lib.ListN.{length, get_or}
use Rattle.sets.specs.Tests.{◌and◌, non}
use Rattle.sets.specs.Members.{mem, every_below}
use Rattle.std.specs.List.{list_all}
use Rattle.sets.specs.declared.set.Set.{Set}
use Rattle.sets.proofs.Tests.{and_l, and_r, and_i, T-ext, eqb_of, not-non}
use Rattle.sets.proofs.Below.{some-i, some-e, every-i, every-e}
use Rattle.plain.specs.Pairs.{pair_of, source_of, target_of, some_in, every_in, is_among}

-- ---- a pair and its two activities

-- a number is the pair of s and t just where it has this source and this target
pub pair_is : (p s t : ℕ) → t < 256 → eqb p (pair_of s t) ≡ (eqb (source_of p) s and eqb (target_of p) t)
pair_is p s t l =
    T-ext _ _
    (λ h.
    let e = eqb→eq p (pair_of s t) h in
    let source : source_of p ≡ s = omega arith in
    let target : target_of p ≡ t = omega arith in
    and_i _ _ (eqb_of source) (eqb_of target))
    (λ h.
    let source = eqb→eq (source_of p) s (and_l _ _ h) in
    let target = eqb→eq (target_of p) t (and_r _ _ h) in
    let same : p ≡ pair_of s t = omega arith in
    eqb_of same)

-- what the code asks, turned round
pub is-not : (a r : Bool) → r ≡ a → not r ≡ non a
is-not a r h = not-non r ∙ ap non h

-- the code's `&&`
pub and-is : (a b : Bool) → (a && b) ≡ (a and b)
unfolding ◌and◌
and-is true b = refl
and-is false b = refl

-- what the code asks of an activity that was taken out of a pair

module _ (p a : ℕ) (s : Set) (r : Bool) where
  pub at_source : a ≡ source_of p → r ≡ mem s a → r ≡ mem s (source_of p)
  at_source h k = k ∙ ap (mem s) h

  pub at_target : a ≡ target_of p → r ≡ mem s a → r ≡ mem s (target_of p)
  at_target h k = k ∙ ap (mem s) h

  pub not-at-source : a ≡ source_of p → r ≡ mem s a → not r ≡ non (mem s (source_of p))
  not-at-source h k = is-not (mem s (source_of p)) r (at_source h k)

module _ (p a e : ℕ) (h : a ≡ target_of p) where
  pub is-target : a ≡ e → true ≡ eqb (target_of p) e
  is-target k = sym (eq-eqb (target_of p) e (sym h ∙ k))

  pub is-no-target : (a ≡ e → ⊥) → false ≡ eqb (target_of p) e
  is-no-target k = sym (ne_eqb (target_of p) e (λ q. k (h ∙ q)))

-- ---- what stands in a list

module _ (pairs : List ℕ) where
  pub stands : (i : ℕ) → i < length pairs → T (is_among pairs (get_or pairs i 0))
  unfolding is_among some_in
  stands i l = some-i (length pairs) (λ j. eqb (get_or pairs j 0) (get_or pairs i 0)) i l (eqb_refl (get_or pairs i 0))

  -- as the library says that every number passes
  pub all-in : (p : ℕ → Bool) → list_all p pairs ≡ every_in pairs p
  unfolding every_in every_below
  all-in p = go pairs
    where
      go : (xs : List ℕ) → list_all p xs ≡ every_below (length xs) (λ i. p (get_or xs i 0))
      go [] = refl
      go (x ∷ xs) = and-is (p x) (list_all p xs) ∙ ap (λ (t : Bool). p x and t) (go xs)

  pub every-in-i : (p : ℕ → Bool) → ((n : ℕ) → T (is_among pairs n) → T (p n)) → T (every_in pairs p)
  unfolding is_among some_in every_in
  every-in-i p f =
      every-i (length pairs) (λ i. p (get_or pairs i 0))
      (λ i l. f (get_or pairs i 0) (stands i l))

  pub every-in-e : (p : ℕ → Bool) → T (every_in pairs p) → (n : ℕ) → T (is_among pairs n) → T (p n)
  unfolding is_among some_in every_in
  every-in-e p h n t =
      let at = some-e (length pairs) (λ i. eqb (get_or pairs i 0) n) t in
      subst (λ (k : ℕ). T (p k)) (eqb→eq (get_or pairs at.0 0) n at.2)
      (every-e (length pairs) (λ i. p (get_or pairs i 0)) h at.0 at.1)

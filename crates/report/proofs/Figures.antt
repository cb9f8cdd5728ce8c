-- The figures of a number: how they are put, and how many there are. Assumes nothing.
use mathlib.Core.Path.{◌≡◌, refl, sym, ap, subst, ◌∙◌}
use mathlib.Core.Bool.{Bool, true, false}
use mathlib.Core.List.{List, [], ◌∷◌, ◌++◌}
use Prim.Native.Nat.{ℕ, zero, suc, ◌+◌, ◌-◌, ◌/◌, ◌^◌, ◌≤◌, ◌<◌}
use native.Mathlib.Nat.{pow-suc, div-lt_iff_lt-mul}
use native.Mathlib.Omega.{arith}
use borrow.Author.Tests.{lt-ltb, le-ltb, ltb-false}
use lib.Dec.{ltb}
use lib.ListN.{length, length-append}
use Rattle.sets.specs.Tests.{when◌then◌else◌}
use Rattle.report.specs.Lines.{figure, figures, decimal}
use Rattle.report.specs.Puts.{Put}
use Rattle.report.proofs.PutLaws.{nothing-put, put_same, put_on, put-long}

module _ (k n : ℕ) where
  none_left : k ≡ 0 → [] ≡ figures k n
  unfolding figures
  none_left e = ap (λ (j : ℕ). figures j n) (sym e)

  module _ (h : k ≡ 0 → ⊥) where
    one-more_lem : k ≡ suc (k - 1)
    one-more_lem = let p : 0 < k = omega arith in omega arith

    one_left : n < 10 → (figure n ∷ []) ≡ figures k n
    unfolding figures
    one_left l =
        ap (λ (b : Bool). (when b then [] else figures (k - 1) (n / 10)) ++ (figure n ∷ [])) (sym (lt-ltb n 10 l))
        ∙ ap (λ (j : ℕ). figures j n) (sym one-more_lem)

    more_left : 10 ≤ n → figures (k - 1) (n / 10) ++ (figure n ∷ []) ≡ figures k n
    unfolding figures
    more_left l =
        ap (λ (b : Bool). (when b then [] else figures (k - 1) (n / 10)) ++ (figure n ∷ [])) (sym (le-ltb n 10 l))
        ∙ ap (λ (j : ℕ). figures j n) (sym one-more_lem)

    module _ (o : List ℕ) (a : ℕ) (room : a + length (figures k n) ≤ length o) where
      pub one-room : n < 10 → a + 1 ≤ length o
      one-room l = let e = ap length (one_left l) in omega arith

      pub more_room : 10 ≤ n → a + length (figures (k - 1) (n / 10)) ≤ length o
      more_room l = let e = ap length (more_left l) in omega (arith, length-append (figures (k - 1) (n / 10)) (figure n ∷ []))

      pub last-room : (o₁ : List ℕ) (a₁ : ℕ) → 10 ≤ n → Put o a (figures (k - 1) (n / 10)) o₁ a₁ → a₁ + 1 ≤ length o₁
      last-room o₁ a₁ l p =
          let e = ap length (more_left l) in
          let q = p.place in
          omega (arith, length-append (figures (k - 1) (n / 10)) (figure n ∷ []), put-long p)

    pub put_one : (o o₁ : List ℕ) (a a₁ : ℕ) → n < 10 → Put o a (figure n ∷ []) o₁ a₁ → Put o a (figures k n) o₁ a₁
    put_one o o₁ a a₁ l p = put_same (one_left l) p

    pub put-more : (o o₁ o₂ : List ℕ) (a a₁ a₂ : ℕ) → 10 ≤ n → Put o a (figures (k - 1) (n / 10)) o₁ a₁ → Put o₁ a₁ (figure n ∷ []) o₂ a₂
        → Put o a (figures k n) o₂ a₂
    put-more o o₁ o₂ a a₁ a₂ l p q = put_same (more_left l) (put_on p q)

  pub put-zero : (o : List ℕ) (a : ℕ) → k ≡ 0 → Put o a (figures k n) o a
  put-zero o a e = put_same (none_left e) (nothing-put o a)

-- ---- a number below a power of ten has at most so many figures

pub tenth : (n j : ℕ) → n < 10 ^ suc j → n / 10 < 10 ^ j
tenth n j l = (div-lt_iff_lt-mul {k = 10} {x = n} {y = 10 ^ j} (omega arith)).1 (subst (λ (x : ℕ). n < x) (pow-suc 10 j) l)

pub few : (k j n : ℕ) → n < 10 ^ suc j → length (figures k n) ≤ suc j
unfolding figures
few zero j n l = omega arith
few (suc k) j n l = by (λ i m h. few k i m h) j l (ltb n 10) refl
  where
    by : ((i m : ℕ) → m < 10 ^ suc i → length (figures k m) ≤ suc i)
        → (j : ℕ) → n < 10 ^ suc j → (b : Bool) → ltb n 10 ≡ b
        → length ((when b then [] else figures k (n / 10)) ++ (figure n ∷ [])) ≤ suc j
    by ih j l true e = omega arith
    by ih zero l false e = absurd (let g = ltb-false n 10 e in omega arith)
    by ih (suc j) l false e = omega (arith, ih j (n / 10) (tenth n (suc j) l), length-append (figures k (n / 10)) (figure n ∷ []))

-- no number has more figures than are asked for
pub at_most : (k n : ℕ) → length (figures k n) ≤ k
unfolding figures
at_most zero n = omega arith
at_most (suc k) n = by (at_most k (n / 10)) (ltb n 10)
  where
    by : length (figures k (n / 10)) ≤ k → (b : Bool) → length ((when b then [] else figures k (n / 10)) ++ (figure n ∷ [])) ≤ suc k
    by h true = omega arith
    by h false = omega (arith, length-append (figures k (n / 10)) (figure n ∷ []))

pub one-figure : (n : ℕ) → n < 10 → length (decimal n) ≤ 1
one-figure n l = few 5 0 n l

pub two-figures : (n : ℕ) → n < 100 → length (decimal n) ≤ 2
two-figures n l = few 5 1 n l

pub three-figures : (n : ℕ) → n < 1000 → length (decimal n) ≤ 3
three-figures n l = few 5 2 n l

pub four-figures : (n : ℕ) → n < 10000 → length (decimal n) ≤ 4
four-figures n l = few 5 3 n l

-- Two tests of a few unknowns that agree at every value of the unknowns are equal. Assumes nothing.
use mathlib.Core.Path.{◌≡◌}
use mathlib.Core.Bool.{Bool, true, false}
use lib.Dec.{T}
use Rattle.sets.specs.Tests.{◌and◌, ◌or◌, non}
use Rattle.sets.proofs.Tests.{and_l, and_r, T-ext, imp-e}

-- both have the same value
abbrev same : Bool → Bool → Bool
same a b = (non a or b) and (non b or a)

same-e : (a b : Bool) → T (same a b) → a ≡ b
same-e a b t = T-ext a b (imp-e a b (and_l _ _ t)) (imp-e b a (and_r _ _ t))

abbrev all : (Bool → Bool) → Bool
all f = f true and f false

all-e : (f : Bool → Bool) → T (all f) → (a : Bool) → T (f a)
all-e f t true = and_l _ _ t
all-e f t false = and_r _ _ t

pub by2 : (f g : Bool → Bool → Bool) → T (all (λ a. all (λ b. same (f a b) (g a b)))) → (a b : Bool) → f a b ≡ g a b
by2 f g t a b = same-e _ _ (all-e (λ y. same (f a y) (g a y)) (all-e (λ x. all (λ y. same (f x y) (g x y))) t a) b)

pub by3 : (f g : Bool → Bool → Bool → Bool) → T (all (λ a. all (λ b. all (λ c. same (f a b c) (g a b c))))) → (a b c : Bool) → f a b c ≡ g a b c
by3 f g t a = by2 (f a) (g a) (all-e (λ x. all (λ b. all (λ c. same (f x b c) (g x b c)))) t a)

pub by4 : (f g : Bool → Bool → Bool → Bool → Bool) → T (all (λ a. all (λ b. all (λ c. all (λ d. same (f a b c d) (g a b c d))))))
    → (a b c d : Bool) → f a b c d ≡ g a b c d
by4 f g t a = by3 (f a) (g a) (all-e (λ x. all (λ b. all (λ c. all (λ d. same (f x b c d) (g x b c d))))) t a)

pub by5 : (f g : Bool → Bool → Bool → Bool → Bool → Bool)
    → T (all (λ a. all (λ b. all (λ c. all (λ d. all (λ e. same (f a b c d e) (g a b c d e))))))) → (a b c d e : Bool) → f a b c d e ≡ g a b c d e
by5 f g t a = by4 (f a) (g a) (all-e (λ x. all (λ b. all (λ c. all (λ d. all (λ e. same (f x b c d e) (g x b c d e)))))) t a)

-- What excludes a target after steps 1 to 5: itself, and the smallest source of step 4's and of step 5's own pairs. Assumes nothing.
use mathlib.Core.Path.{◌≡◌, sym, ap, ap₂, ◌∙◌, subst}
use mathlib.Core.Bool.{Bool, true, false, not}
use mathlib.Core.List.{List}
use Prim.Native.Nat.{ℕ, ◌<◌}
use lib.Dec.{T, eqb, eqb→eq}
use Rattle.sets.specs.Tests.{◌and◌, ◌or◌, non}
use Rattle.sets.specs.Members.{width, mem, those, some_below, least_below, is_empty}
use Rattle.sets.specs.Rows.{row_at, in_row}
use Rattle.sets.specs.declared.set.Set.{Set}
use Rattle.sets.proofs.Tests.{T-ext, and_r, and_i, not-non, non-non}
use Rattle.sets.proofs.Below.{least-ext, least-is}
use Rattle.sets.proofs.Members.{those-ext, empty-none}
use Rattle.sets.proofs.MadeSets.{is-those, joined}
use Rattle.steps.specs.Rowwise.{excludes_itself, smallest, apart, closing, excluders}

-- the ways out of the test whether an activity excludes itself
module _ (before chains : List ℕ) (a : ℕ) (row : Set) (q : Bool) (hw : row ≡ row_at before a) (hq : q ≡ mem row a) where
  again : in_row before a a ≡ q
  unfolding in_row
  again = ap (λ (s : Set). mem s a) (sym hw) ∙ sym hq

  pub never-again : q ≡ false → true ≡ excludes_itself before chains a
  unfolding excludes_itself ◌or◌ non
  never-again n = sym (ap (λ (t : Bool). non t or some_below width (λ u. in_row chains a u)) (again ∙ n))

  pub only-after : (row' : Set) (e : Bool) → q ≡ true → row' ≡ row_at chains a → e ≡ is_empty row' → not e
      ≡ excludes_itself before chains a
  unfolding excludes_itself in_row ◌or◌ non
  only-after row' e z hc he =
      not-non e ∙ ap non (he ∙ empty-none row') ∙ non-non (some_below width (mem row')) ∙ ap (λ (s : Set). some_below width (mem s)) hc
      ∙ sym (ap (λ (t : Bool). non t or some_below width (λ u. in_row chains a u)) (again ∙ z))

-- the set of the least member has no other; where there is none it is empty
pub smallest-is : (s one : Set) (k : ℕ) → k ≡ least_below width (mem s) → one ≡ those (λ b. eqb b k) → one ≡ those (smallest (mem s))
unfolding smallest
smallest-is s one k hk ho =
    ho
    ∙ those-ext (λ b. eqb b k) (smallest (mem s))
    (λ a l.
    ap (eqb a) hk
    ∙ T-ext (eqb a (least_below width (mem s))) (mem s a and eqb a (least_below width (mem s)))
    (λ t. let same = eqb→eq a (least_below width (mem s)) t in
    and_i _ _ (subst (λ (n : ℕ). T (mem s n)) (sym same) (least-is width (mem s) (subst (λ (n : ℕ). n < width) same l))) t)
    (λ t. and_r _ _ t))

-- the least of two tests that agree
pub smallest-as : (p q : ℕ → Bool) → ((a : ℕ) → a < width → p a ≡ q a) → (a : ℕ) → a < width → smallest p a ≡ smallest q a
unfolding smallest
smallest-as p q h a l = ap₂ (λ (b : Bool) (n : ℕ). b and eqb a n) (h a l) (least-ext width p q h)

pub excluders-are : (events : Set) (before later chains : List ℕ) (a : ℕ) (itself : Bool) (sources four closed five own both r : Set)
    → itself ≡ excludes_itself before chains a
    → sources ≡ those (apart events before later a) → four ≡ those (smallest (mem sources))
    → closed ≡ those (closing events itself before later a) → five ≡ those (smallest (mem closed))
    → own ≡ those (λ x. itself and eqb x a) → both ≡ those (λ x. mem own x or mem four x) → r ≡ those (λ x. mem both x or mem five x)
    → r ≡ those (excluders events before later chains a)
unfolding excluders
excluders-are events before later chains a itself sources four closed five own both r hi hs h4 hc h5 ho hb hr =
    let step4 = h4 ∙ those-ext _ _ (smallest-as (mem sources) _ (is-those sources _ hs)) in
    let step5 = h5 ∙ those-ext _ _ (smallest-as (mem closed) _ (is-those closed _ hc)) in
    let two = joined ◌or◌ own four both _ _ (is-those own _ ho) (is-those four _ step4) hb in
    joined ◌or◌ both five r _ _ (is-those both _ two) (is-those five _ step5) hr
    ∙ ap (λ (b : Bool). those (λ x. b and eqb x a or smallest (apart events before later a) x
    or smallest (closing events b before later a) x)) hi

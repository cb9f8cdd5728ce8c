-- What a set's narrow form keeps of it: the members below 64, and nothing else. So two sets that agree there have the same bytes, and what is
-- read again are those members. Assumes nothing.
use mathlib.Core.Path.{◌≡◌, refl, sym, ap, ◌∙◌}
use mathlib.Core.Bool.{Bool, false}
use mathlib.Core.List.{List}
use Prim.Native.Nat.{ℕ, ◌<◌}
use native.Mathlib.Omega.{arith}
use borrow.Author.Tests.{lt-ltb, ltb-true}
use lib.Dec.{ltb}
use Rattle.sets.specs.Tests.{◌and◌}
use Rattle.sets.specs.Members.{mem, those}
use Rattle.sets.specs.declared.set.Set.{Set}
use Rattle.sets.proofs.Tests.{T→true, and_l, true-and}
use Rattle.sets.proofs.Members.{Whole, those-e, those-of, mem-those}
use Rattle.octets.specs.Sets.{set_length, set_bytes, set_at}
use Rattle.octets.proofs.Parts.{part}
use Rattle.octets.proofs.SetLaws.{set-read, narrow-ext}
use Rattle.months.specs.Layout.{tally_width}

pub whole-those : (p : ℕ → Bool) → Whole (those p)
whole-those p = those-of (those p) p (λ a t. t) refl

-- the members below 64
abbrev pub narrowed : (ℕ → Bool) → Set
narrowed p = those (λ a. ltb a tally_width and p a)

pub narrowed-in : (p : ℕ → Bool) (a : ℕ) → a < tally_width → mem (narrowed p) a ≡ p a
narrowed-in p a l =
    mem-those (λ b. ltb b tally_width and p b) a (omega arith) ∙ ap (λ (t : Bool). t and p a) (lt-ltb a tally_width l) ∙ true-and (p a)

-- what is read where the narrow form of a set stands
pub narrow-read : (l : List ℕ) (at : ℕ) (p : ℕ → Bool) → part l at (set_length false) ≡ set_bytes false (those p) → set_at false l at ≡ narrowed p
narrow-read l at p h =
    set-read false l at (narrowed p)
    (h ∙ narrow-ext p (λ a. ltb a tally_width and p a) (λ a k. sym (ap (λ (t : Bool). t and p a) (lt-ltb a tally_width k) ∙ true-and (p a))))
    (whole-those _) (λ a t. ltb-true a tally_width (T→true _ (and_l _ _ (those-e _ a t).1)))

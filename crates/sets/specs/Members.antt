-- Sets of activities, said by their members (01, "Sizes": bit a for activity a; 02, 10/12: up to 128).
use Rattle.std.specs.Prelude.{◌≡◌, Bool, true, false, ℕ, zero, suc, ◌+◌, ◌-◌, ◌*◌, ◌/◌, ◌%◌, ◌^◌, eqb, ltb}
use Rattle.sets.specs.Tests.{◌and◌, ◌or◌, non, when◌then◌else◌}
use Rattle.sets.specs.declared.set.Set.{Set}

-- how many activities a set can hold: the one place in the definitions where the width stands
abbrev pub width : ℕ
width = 128

-- how many of them a machine word holds
abbrev pub word : ℕ
word = 64

abbrev pub digit : Bool → ℕ
digit true = 1
digit false = 0

-- binary digit a of n is 1
unfoldable pub bit : ℕ → ℕ → Bool
bit n a = eqb (n / 2 ^ a % 2) 1

-- the number of w binary digits whose digit a is 1 where a passes
unfoldable pub bits_of : ℕ → (ℕ → Bool) → ℕ
bits_of zero p = 0
bits_of (suc w) p = digit (p 0) + 2 * bits_of w (λ a. p (suc a))

-- a is a member of s: the low word's digit a, and from 64 on the high word's digit a - 64
unfoldable pub mem : Set → ℕ → Bool
mem s a = when ltb a word then bit s.low a else bit s.high (a - word)

-- the set of the activities that pass
unfoldable pub those : (ℕ → Bool) → Set
those p = record { low = bits_of word p; high = bits_of word (λ a. p (word + a)) }

-- the set without a member
abbrev pub no_set : Set
no_set = record { low = 0; high = 0 }

-- some number below w passes
unfoldable pub some_below : ℕ → (ℕ → Bool) → Bool
some_below zero p = false
some_below (suc w) p = p 0 or some_below w (λ a. p (suc a))

-- every number below w passes
unfoldable pub every_below : ℕ → (ℕ → Bool) → Bool
every_below zero p = true
every_below (suc w) p = p 0 and every_below w (λ a. p (suc a))

-- how many numbers below w pass
unfoldable pub count_below : ℕ → (ℕ → Bool) → ℕ
count_below zero p = 0
count_below (suc w) p = digit (p 0) + count_below w (λ a. p (suc a))

-- 0 where the first number passed, else one more than was found among the later ones
abbrev pub or_next : Bool → ℕ → ℕ
or_next true n = 0
or_next false n = suc n

-- the least number below w that passes, or w where none does
unfoldable pub least_below : ℕ → (ℕ → Bool) → ℕ
least_below zero p = 0
least_below (suc w) p = or_next (p 0) (least_below w (λ a. p (suc a)))

-- one more than the greatest number below w that passes, or 0 where none does
unfoldable pub end_below : ℕ → (ℕ → Bool) → ℕ
end_below zero p = 0
end_below (suc w) p = when p w then suc w else end_below w p

-- the least member above a, or the width where there is none
unfoldable pub next_above : Set → ℕ → ℕ
next_above s a = least_below width (λ b. mem s b and ltb a b)

-- the set has no member
unfoldable pub is_empty : Set → Bool
is_empty s = every_below width (λ a. non (mem s a))

-- every member of s is a member of t
unfoldable pub within : Set → Set → Bool
within s t = every_below width (λ a. non (mem s a) or mem t a)

-- the least member was taken out of s, and t is left
abbrev pub Takes : Set → ℕ → Set → Type 0
Takes s a t = (is_empty s ≡ false) × (a ≡ least_below width (mem s)) × (t ≡ those (λ b. mem s b and non (eqb b (least_below width (mem s)))))

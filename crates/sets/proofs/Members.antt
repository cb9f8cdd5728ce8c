-- Laws of sets by their members, and the machine's operations as comprehensions. Assumes nothing.
use mathlib.Core.Path.{◌≡◌, refl, sym, ap, ap₂, ◌∙◌, subst}
use mathlib.Core.Bool.{Bool, true, false, ◌&&◌}
use mathlib.Core.Logic.{◌⊎◌, inl, inr}
use Prim.Native.Nat.{ℕ, suc, ◌^◌, ◌+◌, ◌-◌, ◌*◌, ◌/◌, ◌%◌, ◌≤◌, ◌<◌}
use native.Mathlib.Omega.{arith}
use native.Mathlib.Nat.{lt_of_le_of_lt}
use borrow.Author.Tests.{ne_eqb, eqb-true, lt-ltb, le-ltb, ltb-true, ltb-false}
use lib.Dec.{T, eqb, eqb→eq, ltb}
use lib.Pow.{pow-lt, pow_pos}
use lib.Bits.{bit_and, bit_or, and_le_l, and_le_r, and_mask, or_lt, and_lt, or_add_and, or_zero_l}
use lib.Count.{ones, count_trailing_zeros, count_leading_zeros, leading_of_zero, leading_top}
use Rattle.sets.specs.Tests.{◌and◌, ◌or◌, non}
use Rattle.sets.specs.Members.{width, word, bit, bits_of, mem, those, no_set, some_below, every_below, count_below, least_below, end_below, is_empty, within, Takes}
use Rattle.sets.specs.declared.set.Set.{Set}
use Rattle.sets.proofs.Tests.{non-or, non-non, and-true, and-false, false-and, and_is, and_l, and_r, and_i, eqb_of, T-ext, T→true, true→T, F→false, false→F, non-false, non-i, non-e, imp-i, imp-e, split, either}
use Rattle.sets.proofs.Bits.{is-bits_of, bits_of-ext, bits_of-bit, bits_of-lt, bit-bits_of, bit-and, bit-or, bit-non, bit-above, bit-zero, bit-pow, bit-top, bit-ones, one_shl}
use Rattle.sets.proofs.Below.{some-ext, every-i, every-e, every-ext, every-split, non-some, none-zero, count-ext, count_less, count-split, least-is, least_lt, least-ext, least-here, least-past, end-past, end-only, ones-count, trailing-least, cleared}

-- ---- a number below the width is below a word, or a word more than one that is

module _ (s : Set) (a : ℕ) where
  pub mem-low : a < word → mem s a ≡ bit s.low a
  unfolding mem
  mem-low l = rw (lt-ltb a word l)

  pub mem-high : mem s (word + a) ≡ bit s.high a
  unfolding mem
  mem-high = let e : (word + a) - word ≡ a = omega arith in rw (le-ltb (word + a) word (omega arith), e)

-- what holds of both words' numbers holds of all
pub by_word : (P : ℕ → Type 0) → ((a : ℕ) → a < word → P a) → ((a : ℕ) → P (word + a)) → (a : ℕ) → P a
by_word P low high a =
    either (split (ltb a word)) (λ t. low a (ltb-true a word (T→true _ t)))
    (λ t.
    let g : word ≤ a = ltb-false a word (F→false _ t) in
    let e : word + (a - word) ≡ a = omega arith in
    subst P e (high (a - word)))

-- ---- a set and its members

-- a set as the code has it: each word has no more digits than a word
abbrev pub Fits : Set → Type 0
Fits s = (s.low < 2 ^ word) × (s.high < 2 ^ word)

-- two words that are the digits of p are the set of p: every operation is shown by this
module _ (s : Set) (p : ℕ → Bool) where
  pub of_words : s.low ≡ bits_of word p → s.high ≡ bits_of word (λ a. p (word + a)) → s ≡ those p
  unfolding those
  of_words low high = λ i. record { low = low i; high = high i }

  -- what has the members p is the set of p
  pub is-those : Fits s → ((a : ℕ) → a < width → mem s a ≡ p a) → s ≡ those p
  is-those (hl, hh) e =
      of_words
      (is-bits_of word s.low p hl (λ a l. sym (mem-low s a l) ∙ e a (omega arith)))
      (is-bits_of word s.high (λ a. p (word + a)) hh (λ a l. sym (mem-high s a) ∙ e (word + a) (omega arith)))

pub those-ext : (p q : ℕ → Bool) → ((a : ℕ) → a < width → p a ≡ q a) → those p ≡ those q
unfolding those
those-ext p q e =
    of_words (those p) q (bits_of-ext word p q (λ a l. e a (omega arith)))
    (bits_of-ext word (λ a. p (word + a)) (λ a. q (word + a)) (λ a l. e (word + a) (omega arith)))

pub mem-those : (p : ℕ → Bool) (a : ℕ) → a < width → mem (those p) a ≡ p a
unfolding those
mem-those p =
    by_word (λ a. a < width → mem (those p) a ≡ p a)
    (λ a l h. mem-low (those p) a l ∙ bit-bits_of word p a l)
    (λ a h. mem-high (those p) a ∙ bit-bits_of word (λ b. p (word + b)) a (omega arith))

pub mem-above : (s : Set) → s.high < 2 ^ word → (a : ℕ) → width ≤ a → mem s a ≡ false
mem-above s h =
    by_word (λ a. width ≤ a → mem s a ≡ false) (λ a l g. absurd (omega arith)) (λ a g. mem-high s a ∙ bit-above word s.high a h (omega arith))

pub mem-those-above : (p : ℕ → Bool) (a : ℕ) → width ≤ a → mem (those p) a ≡ false
unfolding those
mem-those-above p = mem-above (those p) (bits_of-lt word (λ b. p (word + b)))

pub mem-none : (a : ℕ) → mem no_set a ≡ false
mem-none = by_word (λ a. mem no_set a ≡ false) (λ a l. mem-low no_set a l ∙ bit-zero a) (λ a. mem-high no_set a ∙ bit-zero a)

pub none-those : (p : ℕ → Bool) → ((a : ℕ) → a < width → p a ≡ false) → no_set ≡ those p
none-those p e = is-those no_set p (omega arith, omega arith) (λ a l. mem-none a ∙ sym (e a l))

-- a member of a comprehension is below the width, and passes
pub those-e : (p : ℕ → Bool) (a : ℕ) → T (mem (those p) a) → (a < width) × T (p a)
those-e p a t =
    either (split (ltb a width))
    (λ l. let h : a < width = ltb-true a width (T→true _ l) in (h, subst T (mem-those p a h) t))
    (λ g. absurd (false→F (mem-those-above p a (ltb-false a width (F→false _ g))) t))

pub those-i : (p : ℕ → Bool) (a : ℕ) → a < width → T (p a) → T (mem (those p) a)
those-i p a l t = subst T (sym (mem-those p a l)) t

-- a set is the set of its members
pub those-mem : (s : Set) → Fits s → those (mem s) ≡ s
those-mem s h = sym (is-those s (mem s) h (λ a l. refl))

-- what proofs above ask of a set: that it is the set of its members, as every set of the code is
abbrev pub Whole : Set → Type 0
Whole s = those (mem s) ≡ s

module _ (s : Set) (w : Whole s) where
  pub whole-fits : Fits s
  unfolding those
  whole-fits = subst Fits w (bits_of-lt word (mem s), bits_of-lt word (λ a. mem s (word + a)))

  pub whole-low : (a : ℕ) → T (mem s a) → a < width
  whole-low a t = (those-e (mem s) a (subst (λ (u : Set). T (mem u a)) (sym w) t)).0

  -- and below the end
  pub whole-end : (a : ℕ) → T (mem s a) → a < end_below width (mem s)
  whole-end a t = end-past width (mem s) a (whole-low a t) t

  pub whole-empty : is_empty s ≡ true → no_set ≡ s
  unfolding is_empty
  whole-empty e = none-those (mem s) (λ a l. F→false _ (non-e (mem s a) (every-e width _ (true→T e) a l))) ∙ w

-- ---- sets of one word

-- a set without members from a word on has no high word
pub none-high : (s : Set) → Whole s → ((a : ℕ) → T (mem s a) → a < word) → s.high ≡ 0
unfolding those
none-high s w below =
    sym (ap (λ (u : Set). u.high) w)
    ∙ bits_of-ext word (λ a. mem s (word + a)) (bit 0)
    (λ a l. F→false _ (λ t. let b : word + a < word = below (word + a) t in absurd (omega arith)) ∙ sym (bit-zero a))
    ∙ bits_of-bit word 0 (omega arith)

-- and a low word alone is a set of numbers below a word
pub low-alone : (x a : ℕ) → T (mem (record { low = x; high = 0 }) a) → a < word
low-alone x =
    by_word (λ a. T (mem (record { low = x; high = 0 }) a) → a < word) (λ a l t. l)
    (λ a t. absurd (false→F (mem-high (record { low = x; high = 0 }) a ∙ bit-zero a) t))

pub empty-no_set : is_empty no_set ≡ true
unfolding is_empty
empty-no_set = T→true _ (every-i width _ (λ a l. non-i _ (false→F (mem-none a))))

-- ---- a comprehension over a set that is itself one: what a caller of several operations shows, one law for each turn

member : (u : Set) (p : ℕ → Bool) → u ≡ those p → (a : ℕ) → a < width → mem u a ≡ p a
member u p e a l = ap (λ (s : Set). mem s a) e ∙ mem-those p a l

pub those-of : (u : Set) (p : ℕ → Bool) (f : ℕ → Bool → Bool) → u ≡ those p → those (λ a. f a (mem u a)) ≡ those (λ a. f a (p a))
those-of u p f e = those-ext (λ a. f a (mem u a)) (λ a. f a (p a)) (λ a l. ap (f a) (member u p e a l))

pub some-of_lem : (u : Set) (p : ℕ → Bool) (f : ℕ → Bool → Bool) → u ≡ those p → some_below width (λ a. f a (mem u a)) ≡ some_below width (λ a. f a (p a))
some-of_lem u p f e = some-ext width (λ a. f a (mem u a)) (λ a. f a (p a)) (λ a l. ap (f a) (member u p e a l))

pub least-of : (u : Set) (p : ℕ → Bool) → u ≡ those p → least_below width (mem u) ≡ least_below width p
least-of u p e = least-ext width (mem u) p (member u p e)

pub every_of : (u : Set) (p : ℕ → Bool) (f : ℕ → Bool → Bool) → u ≡ those p → every_below width (λ a. f a (mem u a)) ≡ every_below width (λ a. f a (p a))
every_of u p f e = every-ext width (λ a. f a (mem u a)) (λ a. f a (p a)) (λ a l. ap (f a) (member u p e a l))

-- ---- empty, and within

pub empty-e : (s : Set) → T (is_empty s) → (a : ℕ) → a < width → T (mem s a) → ⊥
unfolding is_empty
empty-e s h a l t = non-e (mem s a) (every-e width _ h a l) t

pub empty-none : (s : Set) → is_empty s ≡ non (some_below width (mem s))
unfolding is_empty
empty-none s = sym (non-some width (mem s))

pub within-e : (s t : Set) → T (within s t) → (a : ℕ) → a < width → T (mem s a) → T (mem t a)
unfolding within
within-e s t h a l m = imp-e _ _ (every-e width _ h a l) m

pub within-i : (s t : Set) → ((a : ℕ) → a < width → T (mem s a) → T (mem t a)) → T (within s t)
unfolding within
within-i s t f = every-i width _ (λ a l. imp-i _ _ (f a l))

-- ---- a turn of a loop over a set's members: `a = rest.least(); rest = rest.difference(Set::one(a))`

pub fewer : (rest rest' one : Set) (a : ℕ) (r : Bool)
    → r ≡ is_empty rest → r ≡ false
    → a ≡ least_below width (mem rest) → one ≡ those (λ b. eqb b a) → rest' ≡ those (λ b. mem rest b and non (mem one b))
    → count_below width (mem rest') < count_below width (mem rest)
fewer rest rest' one a r hr ht ha ho hm =
    let some : T (some_below width (mem rest)) = non-false _ (sym (empty-none rest) ∙ sym hr ∙ ht) in
    let low : least_below width (mem rest) < width = least_lt width (mem rest) some in
    let e = hm ∙ those-of one (λ b. eqb b a) (λ b t. mem rest b and non t) ho in
    let same : count_below width (mem rest') ≡ count_below width (λ b. mem rest b and non (eqb b (least_below width (mem rest)))) =
    count-ext width (mem rest') (λ b. mem rest b and non (eqb b (least_below width (mem rest))))
    (λ b l. member rest' (λ c. mem rest c and non (eqb c a)) e b l ∙ ap (λ (k : ℕ). mem rest b and non (eqb b k)) ha) in
    omega (arith, count_less width (mem rest) (least_below width (mem rest)) low (least-is width (mem rest) low))

-- ---- the operations, as the machine has them, word by word: each method's `returns` is closed by its law

-- an operation that works digit by digit gives, on both words, the set of what it says of the members
module _ (op : ℕ → ℕ → ℕ) (f : Bool → Bool → Bool)
    (fits : (x y : ℕ) → x < 2 ^ word → y < 2 ^ word → op x y < 2 ^ word)
    (digits : (x y a : ℕ) → y < 2 ^ word → a < word → bit (op x y) a ≡ f (bit x a) (bit y a))
    (s t : Set) (sl : s.low < 2 ^ word) (sh : s.high < 2 ^ word) (tl : t.low < 2 ^ word) (th : t.high < 2 ^ word) where
  word-by-word : ◌≡◌ {A = Set} (record { low = op s.low t.low; high = op s.high t.high }) (those (λ a. f (mem s a) (mem t a)))
  word-by-word =
      of_words (record { low = op s.low t.low; high = op s.high t.high }) (λ a. f (mem s a) (mem t a))
      (is-bits_of word (op s.low t.low) (λ a. f (mem s a) (mem t a)) (fits s.low t.low sl tl)
      (λ a l. digits s.low t.low a tl l ∙ ap₂ f (sym (mem-low s a l)) (sym (mem-low t a l))))
      (is-bits_of word (op s.high t.high) (λ a. f (mem s (word + a)) (mem t (word + a))) (fits s.high t.high sh th)
      (λ a l. digits s.high t.high a th l ∙ ap₂ f (sym (mem-high s a)) (sym (mem-high t a))))

module _ (s t : Set) (sl : s.low < 2 ^ word) (sh : s.high < 2 ^ word) (tl : t.low < 2 ^ word) (th : t.high < 2 ^ word) where
  pub union-those : ◌≡◌ {A = Set} (record { low = bit_or s.low t.low; high = bit_or s.high t.high }) (those (λ a. mem s a or mem t a))
  union-those = word-by-word bit_or ◌or◌ (or_lt word) (λ x y a h l. bit-or x y a) s t sl sh tl th

  pub intersection-those : ◌≡◌ {A = Set} (record { low = bit_and s.low t.low; high = bit_and s.high t.high }) (those (λ a. mem s a and mem t a))
  intersection-those = word-by-word bit_and ◌and◌ (and_lt word) (λ x y a h l. bit-and x y a) s t sl sh tl th

  pub difference-those
      : ◌≡◌ {A = Set} (record { low = bit_and s.low ((2 ^ word - 1) - t.low); high = bit_and s.high ((2 ^ word - 1) - t.high) }) (those (λ a. mem s a and non (mem t a)))
  difference-those =
      word-by-word (λ x y. bit_and x ((2 ^ word - 1) - y)) (λ a b. a and non b)
      (λ x y hx hy. and_lt word x ((2 ^ word - 1) - y) hx (omega arith))
      (λ x y a h l. bit-and x ((2 ^ word - 1) - y) a ∙ ap (λ (b : Bool). bit x a and b) (bit-non word y a h l))
      s t sl sh tl th

-- what is left without t is empty where s is within t
pub within-empty : (s t u : Set) (r : Bool) → u ≡ those (λ a. mem s a and non (mem t a)) → r ≡ is_empty u → r ≡ within s t
unfolding within is_empty
within-empty s t u r hu hr =
    hr
    ∙ every_of u (λ a. mem s a and non (mem t a)) (λ a b. non b) hu
    ∙ every-ext width (λ a. non (mem s a and non (mem t a))) (λ a. non (mem s a) or mem t a)
    (λ a l. ap non (sym (non-or (mem s a) (mem t a))) ∙ non-non (non (mem s a) or mem t a))

-- a word without a digit
word-zero : (x : ℕ) → x < 2 ^ word → every_below word (λ a. non (bit x a)) ≡ eqb x 0
word-zero x h = none-zero word (bit x) ∙ ap (λ (n : ℕ). eqb n 0) (bits_of-bit word x h)

pub word_some : (x : ℕ) → (x ≡ 0 → ⊥) → x < 2 ^ word → T (some_below word (bit x))
word_some x n h = non-false _ (non-some word (bit x) ∙ word-zero x h ∙ ne_eqb x 0 n)

or-zero : (x y : ℕ) → eqb (bit_or x y) 0 ≡ (eqb x 0 and eqb y 0)
or-zero x y =
    T-ext (eqb (bit_or x y) 0) (eqb x 0 and eqb y 0)
    (λ t.
    let z = eqb-true (bit_or x y) 0 (T→true _ t) in
    let zx : x ≡ 0 = omega (arith, or_add_and x y, and_le_r x y) in
    let zy : y ≡ 0 = omega (arith, or_add_and x y, and_le_l x y) in
    and_i _ _ (eqb_of zx) (eqb_of zy))
    (λ t. eqb_of (ap₂ bit_or (eqb-true x 0 (T→true _ (and_l _ _ t))) (eqb-true y 0 (T→true _ (and_r _ _ t))) ∙ or_zero_l 0))

-- the highest digit of a word that is 1
word-top : (x : ℕ) → (x ≡ 0 → ⊥) → x < 2 ^ word → (j : ℕ) × (count_leading_zeros word x + suc j ≡ word) × ((a : ℕ) → T (bit x a) → a ≤ j) × T (bit x j)
word-top x n h =
    let top = leading_top word x (omega arith) h in
    let j : ℕ = top.0 in (
      j,
      top.1,
      λ a t. either (split (ltb j a))
          (λ up. absurd (false→F (bit-above (suc j) x a top.3 (ltb-true j a (T→true _ up))) t))
          (λ low. ltb-false j a (F→false _ low)),
      true→T (bit-top j x top.2 top.3),
    )

stays : (t k : Bool) → k ≡ false → (t and non k) ≡ t
unfolding non
stays t k e = ap (λ (x : Bool). t and non x) e ∙ and-true t

pub eqb-add : (k a b : ℕ) → eqb a b ≡ eqb (k + a) (k + b)
eqb-add k a b =
    T-ext (eqb a b) (eqb (k + a) (k + b)) (λ t. eqb_of (ap (λ (n : ℕ). k + n) (eqb-true a b (T→true _ t))))
    (λ t. let e = eqb-true (k + a) (k + b) (T→true _ t) in let q : a ≡ b = omega arith in eqb_of q)

module _ (s : Set) (hl : s.low < 2 ^ word) (hh : s.high < 2 ^ word) where
  pub complement-those : ◌≡◌ {A = Set} (record { low = (2 ^ word - 1) - s.low; high = (2 ^ word - 1) - s.high }) (those (λ a. non (mem s a)))
  complement-those =
      word-by-word (λ x y. (2 ^ word - 1) - y) (λ a b. non b) (λ x y hx hy. omega arith) (λ x y a h l. bit-non word y a h l) s s hl hh hl hh

  pub empty-bits : eqb (bit_or s.low s.high) 0 ≡ is_empty s
  unfolding is_empty
  empty-bits =
      or-zero s.low s.high
      ∙ ap₂ ◌and◌ (sym (word-zero s.low hl)) (sym (word-zero s.high hh))
      ∙ ap₂ ◌and◌ (every-ext word (λ a. non (bit s.low a)) (λ a. non (mem s a)) (λ a l. ap non (sym (mem-low s a l))))
      (every-ext word (λ a. non (bit s.high a)) (λ a. non (mem s (word + a))) (λ a l. ap non (sym (mem-high s a))))
      ∙ sym (every-split word word (λ a. non (mem s a)))

  pub has_above : (a : ℕ) → width ≤ a → false ≡ mem s a
  has_above a l = sym (mem-above s hh a l)

  pub ones-those : ones s.low + ones s.high ≡ count_below width (mem s)
  ones-those =
      ap₂ (λ (m n : ℕ). m + n)
      (ones-count word s.low hl ∙ count-ext word (bit s.low) (mem s) (λ a l. sym (mem-low s a l)))
      (ones-count word s.high hh ∙ count-ext word (bit s.high) (λ a. mem s (word + a)) (λ a l. sym (mem-high s a)))
      ∙ sym (count-split word word (mem s))

  pub least-high : s.low ≡ 0 → word + count_trailing_zeros word s.high ≡ least_below width (mem s)
  least-high z =
      ap (λ (n : ℕ). word + n) (trailing-least word s.high ∙ least-ext word (bit s.high) (λ a. mem s (word + a)) (λ a l. sym (mem-high s a)))
      ∙ sym (least-past word word (mem s) (λ a l. mem-low s a l ∙ ap (λ (n : ℕ). bit n a) z ∙ bit-zero a))

  low-lt : (s.low ≡ 0 → ⊥) → count_trailing_zeros word s.low < word
  low-lt n = subst (λ (k : ℕ). k < word) (sym (trailing-least word s.low)) (least_lt word (bit s.low) (word_some s.low n hl))

  pub least-low : (s.low ≡ 0 → ⊥) → count_trailing_zeros word s.low ≡ least_below width (mem s)
  least-low n =
      let some = word_some s.low n hl in
      let low : T (some_below word (mem s)) = subst T (some-ext word (bit s.low) (mem s) (λ a l. sym (mem-low s a l))) some in
      trailing-least word s.low
      ∙ least-ext word (bit s.low) (mem s) (λ a l. sym (mem-low s a l))
      ∙ sym (least-here word word (mem s) low)

  -- one more than the greatest member
  pub end-high : (s.high ≡ 0 → ⊥) → width - count_leading_zeros word s.high ≡ end_below width (mem s)
  end-high n =
      let top = word-top s.high n hh in
      let zeros = top.1 in
      let k : ℕ = width - count_leading_zeros word s.high in
      let same : k - 1 ≡ word + top.0 = omega arith in
      end-only width (mem s) k (omega arith)
      (by_word (λ a. a < width → T (mem s a) → a < k) (λ a l h t. omega arith)
      (λ a h t. let low = top.2 a (subst T (mem-high s a) t) in omega arith))
      (λ p. subst (λ (a : ℕ). T (mem s a)) (sym same) (subst T (sym (mem-high s top.0)) top.3))

  low-only : s.high ≡ 0 → (a : ℕ) → T (mem s a) → a < word
  low-only z = by_word (λ a. T (mem s a) → a < word) (λ a l t. l) (λ a t. absurd (false→F (mem-high s a ∙ ap (λ (x : ℕ). bit x a) z ∙ bit-zero a) t))

  pub end_low : s.high ≡ 0 → word - count_leading_zeros word s.low ≡ end_below width (mem s)
  end_low z = by (split (eqb s.low 0))
    where
      k : ℕ
      k = word - count_leading_zeros word s.low

      in-low : (a : ℕ) → T (mem s a) → T (bit s.low a)
      in-low a t = subst T (mem-low s a (low-only z a t)) t

      by : T (eqb s.low 0) ⊎ (T (eqb s.low 0) → ⊥) → k ≡ end_below width (mem s)
      by (inl e) =
          let none = eqb-true s.low 0 (T→true _ e) in
          let zeros = ap (count_leading_zeros word) none ∙ leading_of_zero word in
          end-only width (mem s) k (omega arith)
          (λ a l t. absurd (false→F (ap (λ (x : ℕ). bit x a) none ∙ bit-zero a) (in-low a t))) (λ p. absurd (omega arith))
      by (inr f) =
          let top = word-top s.low (λ q. f (eqb_of q)) hl in
          let zeros = top.1 in
          let same : k - 1 ≡ top.0 = omega arith in
          end-only width (mem s) k (omega arith) (λ a l t. let low = top.2 a (in-low a t) in omega arith)
          (λ p. subst (λ (a : ℕ). T (mem s a)) (sym same) (subst T (sym (mem-low s top.0 (omega arith))) top.3))

  -- without the least member: the least digit of the first word that has one is cleared
  pub rest-low : (s.low ≡ 0 → ⊥)
      → ◌≡◌ {A = Set} (record { low = bit_and s.low (s.low - 1); high = s.high }) (those (λ a. mem s a and non (eqb a (least_below width (mem s)))))
  rest-low n =
      let k = least-low n in
      let small : count_trailing_zeros word s.low < word = low-lt n in
      of_words (record { low = bit_and s.low (s.low - 1); high = s.high }) (λ a. mem s a and non (eqb a (least_below width (mem s))))
      (is-bits_of word (bit_and s.low (s.low - 1)) (λ a. mem s a and non (eqb a (least_below width (mem s)))) (lt_of_le_of_lt (and_le_l s.low (s.low - 1)) hl)
      (λ a l.
      cleared word s.low (omega arith) hl a l
      ∙ ap₂ (λ (t : Bool) (m : ℕ). t and non (eqb a m)) (sym (mem-low s a l)) (sym (trailing-least word s.low) ∙ k)))
      (is-bits_of word s.high (λ a. mem s (word + a) and non (eqb (word + a) (least_below width (mem s)))) hh
      (λ a l. sym (mem-high s a) ∙ sym (stays (mem s (word + a)) _ (ne_eqb (word + a) (least_below width (mem s)) (λ q. omega arith)))))

  pub rest-high : s.low ≡ 0 → (s.high ≡ 0 → ⊥)
      → ◌≡◌ {A = Set} (record { low = s.low; high = bit_and s.high (s.high - 1) }) (those (λ a. mem s a and non (eqb a (least_below width (mem s)))))
  rest-high z n =
      let k = least-high z in
      of_words (record { low = s.low; high = bit_and s.high (s.high - 1) }) (λ a. mem s a and non (eqb a (least_below width (mem s))))
      (is-bits_of word s.low (λ a. mem s a and non (eqb a (least_below width (mem s)))) hl
      (λ a l. sym (mem-low s a l) ∙ sym (stays (mem s a) _ (ne_eqb a (least_below width (mem s)) (λ q. omega arith)))))
      (is-bits_of word (bit_and s.high (s.high - 1)) (λ a. mem s (word + a) and non (eqb (word + a) (least_below width (mem s))))
      (lt_of_le_of_lt (and_le_l s.high (s.high - 1)) hh)
      (λ a l.
      cleared word s.high (omega arith) hh a l
      ∙ ap₂ (λ (t u : Bool). t and non u) (sym (mem-high s a))
      (ap (λ (m : ℕ). eqb a m) (sym (trailing-least word s.high)) ∙ eqb-add word a (count_trailing_zeros word s.high) ∙ ap (λ (m : ℕ). eqb (word + a) m) k)))

  pub rest-none : s.low ≡ 0 → s.high ≡ 0 → s ≡ those (λ a. mem s a and non (eqb a (least_below width (mem s))))
  rest-none zl zh =
      is-those s (λ a. mem s a and non (eqb a (least_below width (mem s)))) (hl, hh)
      (λ a l.
      let none : mem s a ≡ false = ap (λ (u : Set). mem u a) empty ∙ mem-none a in
      none ∙ sym (ap (λ (t : Bool). t and non (eqb a (least_below width (mem s)))) none ∙ false-and _))
    where
      empty : s ≡ no_set
      empty = λ i. record { low = zl i; high = zh i }

  -- the same three, as one step of an iterator over the members
  some-not : (eqb s.low 0 and eqb s.high 0) ≡ false → is_empty s ≡ false
  some-not e = sym empty-bits ∙ or-zero s.low s.high ∙ e

  pub takes-low : (s.low ≡ 0 → ⊥) → Takes s (count_trailing_zeros word s.low) (record { low = bit_and s.low (s.low - 1); high = s.high })
  takes-low n = (
    some-not (ap (λ (t : Bool). t and eqb s.high 0) (ne_eqb s.low 0 n) ∙ false-and _),
    least-low n,
    rest-low n,
  )

  pub takes-high : s.low ≡ 0 → (s.high ≡ 0 → ⊥)
      → Takes s (word + count_trailing_zeros word s.high) (record { low = s.low; high = bit_and s.high (s.high - 1) })
  takes-high z n = (
    some-not (ap (λ (t : Bool). eqb s.low 0 and t) (ne_eqb s.high 0 n) ∙ and-false _),
    least-high z,
    rest-high z n,
  )

  pub takes-none : s.low ≡ 0 → s.high ≡ 0 → is_empty s ≡ true
  takes-none zl zh = sym empty-bits ∙ ap₂ (λ (x y : ℕ). eqb (bit_or x y) 0) zl zh

module _ (s : Set) (a : ℕ) where
  pub has-low : a < word → eqb (bit_and (s.low / 2 ^ a) 1) 1 ≡ mem s a
  unfolding bit
  has-low l = ap (λ (n : ℕ). eqb n 1) (and_mask (s.low / 2 ^ a) 1) ∙ sym (mem-low s a l)

  pub has-high : word ≤ a → eqb (bit_and (s.high / 2 ^ (a - word)) 1) 1 ≡ mem s a
  unfolding bit
  has-high l =
      let e : word + (a - word) ≡ a = omega arith in
      ap (λ (n : ℕ). eqb n 1) (and_mask (s.high / 2 ^ (a - word)) 1) ∙ sym (mem-high s (a - word)) ∙ ap (mem s) e

-- two sets of the code are equal where each is within the other
pub equal-within : (s t : Set) → Fits s → Fits t → (eqb s.low t.low && eqb s.high t.high) ≡ (within s t and within t s)
equal-within s t fs ft =
    and_is (eqb s.low t.low) (eqb s.high t.high)
    ∙ T-ext (eqb s.low t.low and eqb s.high t.high) (within s t and within t s)
    (λ e.
    let low = eqb→eq s.low t.low (and_l _ _ e) in
    let high = eqb→eq s.high t.high (and_r _ _ e) in
    let same : s ≡ t = λ i. record { low = low i; high = high i } in
    and_i _ _ (within-i s t (λ a l m. subst (λ (u : Set). T (mem u a)) same m)) (within-i t s (λ a l m. subst (λ (u : Set). T (mem u a)) (sym same) m)))
    (λ w.
    let same : s ≡ t =
    sym (those-mem s fs)
    ∙ those-ext (mem s) (mem t) (λ a l. T-ext (mem s a) (mem t a) (within-e s t (and_l _ _ w) a l) (within-e t s (and_r _ _ w) a l))
    ∙ those-mem t ft in
    and_i _ _ (eqb_of (ap (λ (u : Set). u.low) same)) (eqb_of (ap (λ (u : Set). u.high) same)))

-- ---- one activity, and all below a number

-- words that say where a number stands: the low one below a word, the high one from there on
module _ (k x y : ℕ) (p : ℕ → Bool) (hx : x < 2 ^ word) (hy : y < 2 ^ word) where
  words-those : ((a : ℕ) → a < word → bit x a ≡ p a) → ((a : ℕ) → a < word → bit y a ≡ p (word + a)) → ◌≡◌ {A = Set} (record { low = x; high = y }) (those p)
  words-those low high = of_words (record { low = x; high = y }) p (is-bits_of word x p hx low) (is-bits_of word y (λ a. p (word + a)) hy high)

module _ (k : ℕ) where
  module _ (h : k < word) where
    pub one-low : ◌≡◌ {A = Set} (record { low = 1 * 2 ^ k % 2 ^ word; high = 0 }) (those (λ b. eqb b k))
    one-low =
        ap (λ (n : ℕ). record { low = n; high = 0 }) (one_shl word k h)
        ∙ words-those k (2 ^ k) 0 (λ b. eqb b k) (pow-lt h) (omega arith) (λ a l. bit-pow k a)
        (λ a l. bit-zero a ∙ sym (ne_eqb (word + a) k (λ e. omega arith)))

    pub below-low : ◌≡◌ {A = Set} (record { low = 1 * 2 ^ k % 2 ^ word - 1; high = 0 }) (those (λ a. ltb a k))
    below-low =
        ap (λ (n : ℕ). record { low = n - 1; high = 0 }) (one_shl word k h)
        ∙ words-those k (2 ^ k - 1) 0 (λ a. ltb a k) (omega (arith, pow-lt h)) (omega arith) (λ a l. bit-ones k a)
        (λ a l. bit-zero a ∙ sym (le-ltb (word + a) k (omega arith)))

    pub one-pos : 1 ≤ 1 * 2 ^ k % 2 ^ word
    one-pos = rw (one_shl word k h) (pow_pos k)

  module _ (g : word ≤ k) (h : k < width) where
    in-word : k - word < word
    in-word = omega arith

    pub one-high : ◌≡◌ {A = Set} (record { low = 0; high = 1 * 2 ^ (k - word) % 2 ^ word }) (those (λ b. eqb b k))
    one-high =
        ap (λ (n : ℕ). record { low = 0; high = n }) (one_shl word (k - word) in-word)
        ∙ words-those k 0 (2 ^ (k - word)) (λ b. eqb b k) (omega arith) (pow-lt in-word)
        (λ a l. bit-zero a ∙ sym (ne_eqb a k (λ e. omega arith)))
        (λ a l. bit-pow (k - word) a ∙ T-ext (eqb a (k - word)) (eqb (word + a) k)
        (λ t. let e = eqb-true a (k - word) (T→true _ t) in let q : word + a ≡ k = omega arith in eqb_of q)
        (λ t. let e = eqb-true (word + a) k (T→true _ t) in let q : a ≡ k - word = omega arith in eqb_of q))

    pub below-high : ◌≡◌ {A = Set} (record { low = 2 ^ word - 1; high = 1 * 2 ^ (k - word) % 2 ^ word - 1 }) (those (λ a. ltb a k))
    below-high =
        ap (λ (n : ℕ). record { low = 2 ^ word - 1; high = n - 1 }) (one_shl word (k - word) in-word)
        ∙ words-those k (2 ^ word - 1) (2 ^ (k - word) - 1) (λ a. ltb a k) (omega arith) (omega (arith, pow-lt in-word))
        (λ a l. bit-ones word a ∙ lt-ltb a word l ∙ sym (lt-ltb a k (omega arith)))
        (λ a l. bit-ones (k - word) a
        ∙ either (split (ltb a (k - word)))
        (λ t. let m = ltb-true a (k - word) (T→true _ t) in T→true _ t ∙ sym (lt-ltb (word + a) k (omega arith)))
        (λ t. let m = ltb-false a (k - word) (F→false _ t) in F→false _ t ∙ sym (le-ltb (word + a) k (omega arith))))

    pub one-pos-high : 1 ≤ 1 * 2 ^ (k - word) % 2 ^ word
    one-pos-high = rw (one_shl word (k - word) in-word) (pow_pos (k - word))

  module _ (h : width ≤ k) where
    pub one-above : no_set ≡ those (λ b. eqb b k)
    one-above = none-those (λ b. eqb b k) (λ a l. ne_eqb a k (λ e. omega arith))

    pub below_all : ◌≡◌ {A = Set} (record { low = 2 ^ word - 1; high = 2 ^ word - 1 }) (those (λ a. ltb a k))
    below_all =
        words-those k (2 ^ word - 1) (2 ^ word - 1) (λ a. ltb a k) (omega arith) (omega arith)
        (λ a l. bit-ones word a ∙ lt-ltb a word l ∙ sym (lt-ltb a k (omega arith)))
        (λ a l. bit-ones word a ∙ lt-ltb a word l ∙ sym (lt-ltb (word + a) k (omega arith)))

pub ruleset operations = (union-those, intersection-those, difference-those, complement-those, within-empty, empty-bits, has-low, has-high, has_above, one-low, one-high, one-above, below-low, below-high, below_all, one-pos, one-pos-high, ones-those, least-low, least-high, end_low, end-high, rest-low, rest-high, rest-none)

pub ruleset taking = (takes-low, takes-high, takes-none)

-- Loops that fill rows: over the members of a set, the least first, row by row; and over all targets, into the rows of their sources. And one
-- that gathers a set. Assumes nothing.
use mathlib.Core.Path.{◌≡◌, refl, sym, ap, ap₂, ◌∙◌, subst}
use mathlib.Core.Bool.{Bool, true, false}
use mathlib.Core.List.{List}
use Prim.Native.Nat.{ℕ, ◌+◌, ◌-◌, ◌/◌, ◌^◌, ◌≤◌, ◌<◌}
use native.Mathlib.Nat.{zero-add, lt_of_le_of_lt}
use native.Mathlib.Omega.{arith}
use borrow.Author.Tests.{lt-ltb, le-ltb, ltb-true, ltb-false, eqb-true, eqb-false}
use lib.Dec.{T, eqb, ltb}
use lib.Pow.{shr_le}
use lib.Count.{count_trailing_zeros}
use Rattle.sets.specs.Tests.{◌and◌, ◌or◌, when◌then◌else◌}
use Rattle.sets.specs.Members.{width, word, bit, mem, those, no_set, least_below, next_above, is_empty, Takes}
use Rattle.sets.specs.Rows.{Relation, no_rows, row_at, with_row, rows_of, rows_for, turned}
use Rattle.sets.specs.declared.set.Set.{Set}
use Rattle.sets.proofs.Tests.{and_l, and_r, and_i, T→true, true→T, F→false, false→F, true-and, false-and, and-true, and-false, or-true, or-false, false-or, split, either}
use Rattle.sets.proofs.Bits.{bit-above, bit-shr, bit-shr-none}
use Rattle.sets.proofs.Below.{least-ext, least_lt, least-is, least-before, least-only, least-past, trailing-least}
use Rattle.sets.proofs.RowLaws.{put-rows_of, rows_of-ext, empty-rows_of}
use Rattle.sets.proofs.Members.{mem-low, mem-high, by_word, word_some, those-ext, those-of}
use Rattle.sets.proofs.MadeSets.{Is, is-those, is_row, none}
use Rattle.sets.proofs.Passing.{Part, passed, passed_none, passed-all, part-turn, passed-turn, least-low}

-- ---- from one member to the next

T-lt : (a b : ℕ) → a < b → T (ltb a b)
T-lt a b l = true→T (lt-ltb a b l)

-- a word whose digits are the members from a place on, shifted down so that only those above n are left
module _ (s : Set) (n base k x : ℕ) (start : n + 1 ≡ base + k) (fits : base + word ≤ width) (hx : x < 2 ^ word)
    (digits : (a : ℕ) → a < word → mem s (base + a) ≡ bit x a) where
  -- its least digit is the next member
  next_up : (x / 2 ^ k ≡ 0 → ⊥) → n + 1 + count_trailing_zeros word (x / 2 ^ k) ≡ next_above s n
  unfolding next_above
  next_up some =
      let place : base + (k + t) ≡ n + 1 + t = omega arith in
      ap (λ (m : ℕ). n + 1 + m) (trailing-least word (x / 2 ^ k))
      ∙ least-only width (λ b. mem s b and ltb n b) (n + 1 + t) (omega (arith, inside))
      (λ l. and_i _ _ (subst (λ (b : ℕ). T (mem s b)) place (subst T (sym (digits (k + t) inside)) here)) (T-lt n (n + 1 + t) (omega arith)))
      (λ b l p.
      let over = ltb-true n b (T→true _ (and_r _ _ p)) in
      let c : ℕ = b - (n + 1) in
      let same : b ≡ base + (k + c) = omega arith in
      either (split (ltb c t))
      (λ h.
      let before = ltb-true c t (T→true _ h) in
      absurd (false→F (ap (mem s) same ∙ digits (k + c) (omega (arith, inside)) ∙ sym (bit-shr k x c) ∙ least-before word (bit (x / 2 ^ k)) c before) (and_l _ _ p)))
      (λ h. omega (arith, ltb-false c t (F→false _ h))))
    where
      t : ℕ
      t = least_below word (bit (x / 2 ^ k))

      here : T (bit x (k + t))
      here = subst T (bit-shr k x t) (least-is word _ (least_lt word _ (word_some (x / 2 ^ k) some (lt_of_le_of_lt (shr_le x k) hx))))

      inside : k + t < word
      inside =
          either (split (ltb (k + t) word)) (λ h. ltb-true (k + t) word (T→true _ h))
          (λ h. absurd (false→F (bit-above word x (k + t) hx (ltb-false (k + t) word (F→false _ h))) here))

module _ (s : Set) (n : ℕ) where
  none-next : ((b : ℕ) → b < width → n < b → mem s b ≡ false) → width ≡ next_above s n
  unfolding next_above
  none-next none =
      least-only width (λ b. mem s b and ltb n b) width (omega arith) (λ l. absurd (omega arith))
      (λ b l p. absurd (false→F (none b l (ltb-true n b (T→true _ (and_r _ _ p)))) (and_l _ _ p)))

  pub next_low : s.low < 2 ^ word → n < word - 1 → (s.low / 2 ^ (n + 1) ≡ 0 → ⊥) → n + 1 + count_trailing_zeros word (s.low / 2 ^ (n + 1)) ≡ next_above s n
  next_low h l some =
      next_up s n 0 (n + 1) s.low (omega arith) (omega arith) h (λ a g. ap (mem s) (zero-add a) ∙ mem-low s a g) some

  -- none is left in the low word: the least of the high one
  pub next-over : n < word - 1 → s.low / 2 ^ (n + 1) ≡ 0 → word + count_trailing_zeros word s.high ≡ next_above s n
  unfolding next_above
  next-over l z =
      ap (λ (m : ℕ). word + m) (trailing-least word s.high
      ∙ least-ext word (bit s.high) (λ a. mem s (word + a) and ltb n (word + a))
      (λ a g. sym (mem-high s a) ∙ sym (and-true _) ∙ ap (λ (t : Bool). mem s (word + a) and t) (sym (lt-ltb n (word + a) (omega arith)))))
      ∙ sym (least-past word word (λ b. mem s b and ltb n b)
      (λ a g. F→false _ (λ p.
      let over = ltb-true n a (T→true _ (and_r _ _ p)) in
      false→F (mem-low s a g ∙ bit-shr-none (n + 1) s.low z a (omega arith)) (and_l _ _ p))))

  pub next-high : s.high < 2 ^ word → word - 1 ≤ n → n < width - 1 → (s.high / 2 ^ (n - (word - 1)) ≡ 0 → ⊥)
      → n + 1 + count_trailing_zeros word (s.high / 2 ^ (n - (word - 1))) ≡ next_above s n
  next-high h l g some = next_up s n word (n - (word - 1)) s.high (omega arith) (omega arith) h (λ a b. mem-high s a) some

  pub next-none : word - 1 ≤ n → s.high / 2 ^ (n - (word - 1)) ≡ 0 → width ≡ next_above s n
  next-none l z =
      none-next (by_word (λ b. b < width → n < b → mem s b ≡ false) (λ a g h o. absurd (omega arith))
      (λ a h o. mem-high s a ∙ bit-shr-none (n - (word - 1)) s.high z a (omega arith)))

  pub next_past : width - 1 ≤ n → width ≡ next_above s n
  next_past l = none-next (λ b h o. absurd (omega arith))

pub ruleset nexts = (next_low, next-over, next-high, next-none, next_past)

-- ---- a loop that fills row by row, at the members of a set

-- the rows of the members passed are those of the relation, all others empty
pub record Filled (all : Set) (F : Relation) (out : List ℕ) (rest : Set) : Type 0 where
  pub part : Part all rest
  pub rows : out ≡ rows_of (λ a x. passed all rest a and F a x)

module _ (F : Relation) where
  pub fill_start : (all : Set) (out : List ℕ) → out ≡ no_rows → Filled all F out all
  fill_start all out e =
      record {
        part = λ a l t. t;
        rows = e ∙ empty-rows_of _ (λ a x la lx. ap (λ (t : Bool). t and F a x) (passed_none all a) ∙ false-and (F a x));
      }

  pick : (i a x : ℕ) (b c t : Bool) → eqb a i ≡ t → c ≡ (b or t) → (when t then F i x else (b and F a x)) ≡ (c and F a x)
  pick i a x b c true e h = ap (λ (n : ℕ). F n x) (sym (eqb-true a i e)) ∙ sym (true-and (F a x)) ∙ ap (λ (q : Bool). q and F a x) (sym (h ∙ or-true b))
  pick i a x b c false e h = ap (λ (q : Bool). q and F a x) (sym (h ∙ or-false b))

  module _ {all rest : Set} {out : List ℕ} (inv : Filled all F out rest) where
    -- the row of a member need be that of the relation below the width alone, where members are
    pub fill-turn : (k : ℕ) (rest' row : Set) (out' : List ℕ) → Takes rest k rest' → (k < width → row ≡ those (F k)) → out' ≡ with_row out k row
        → Filled all F out' rest'
    fill-turn k rest' row out' t hr h =
        record {
          part = part-turn rest rest' _ refl t.0 t.2 all inv.part;
          rows =
              h ∙ ap₂ (λ (l : List ℕ) (s : Set). with_row l k s) inv.rows (hr low) ∙ put-rows_of (λ a x. passed all rest a and F a x) k (F k)
              ∙ rows_of-ext _ _
              (λ a x la lx. pick k a x (passed all rest a) (passed all rest' a) (eqb a k) refl
              (passed-turn rest rest' _ refl t.0 t.2 all inv.part a la ∙ ap (λ (n : ℕ). passed all rest a or eqb a n) (sym t.1)));
        }
      where
        low : k < width
        low = subst (λ (n : ℕ). n < width) (sym t.1) (least-low rest rest' _ refl t.0 t.2)

    pub fill_end : (whole : Set) → is_empty rest ≡ true → all ≡ whole → out ≡ rows_for whole F
    unfolding rows_for
    fill_end whole h e =
        inv.rows ∙ rows_of-ext _ (λ a x. mem whole a and F a x)
        (λ a x la lx. ap (λ (t : Bool). t and F a x) (passed-all all rest _ refl h a la ∙ ap (λ (s : Set). mem s a) e))

pub ruleset filling = (fill_start, fill-turn, fill_end)

-- ---- one number further, where all are passed

-- a number other than i is below i + 1 where it is below i
below-same : (a i : ℕ) → (a ≡ i → ⊥) → ltb a i ≡ ltb a (i + 1)
below-same a i d = by (ltb a i) refl
  where
    by : (t : Bool) → ltb a i ≡ t → ltb a i ≡ ltb a (i + 1)
    by true e = e ∙ sym (lt-ltb a (i + 1) (omega (arith, ltb-true a i e)))
    by false e = e ∙ sym (le-ltb a (i + 1) (omega (arith, ltb-false a i e)))

-- i joins the numbers below i that pass
next : (a i : ℕ) (b c : Bool) → (a ≡ i → c ≡ b) → (ltb a i and b or c and eqb a i) ≡ (ltb a (i + 1) and b)
next a i b c h = by (eqb a i) refl
  where
    by : (t : Bool) → eqb a i ≡ t → (ltb a i and b or c and eqb a i) ≡ (ltb a (i + 1) and b)
    by true e =
        let same : a ≡ i = eqb-true a i e in
        ap₂ (λ (s t : Bool). s and b or c and t) (le-ltb a i (omega arith)) e
        ∙ ap₂ (λ (s t : Bool). s or t) (false-and b) (and-true c ∙ h same)
        ∙ false-or b ∙ sym (true-and b)
        ∙ ap (λ (s : Bool). s and b) (sym (lt-ltb a (i + 1) (omega arith)))
    by false e =
        ap (λ (t : Bool). ltb a i and b or c and t) e ∙ ap (λ (t : Bool). ltb a i and b or t) (and-false c) ∙ or-false (ltb a i and b)
        ∙ ap (λ (s : Bool). s and b) (below-same a i (eqb-false a i e))

-- ---- a loop that gathers: of all activities those that pass

-- of those below i
pub record Gathered (p : ℕ → Bool) (out : Set) (i : ℕ) : Type 0 where
  pub got : out ≡ those (λ a. ltb a i and p a)

module _ (p : ℕ → Bool) where
  pub gather-start : Gathered p no_set 0
  gather-start =
      record { got = none (λ a. ltb a 0 and p a) (λ a l. ap (λ (t : Bool). t and p a) (le-ltb a 0 (omega arith)) ∙ false-and (p a)) }

  pub gather-turn : (i : ℕ) (out out' : Set) → Gathered p out i → out' ≡ those (λ a. mem out a or p i and eqb a i) → Gathered p out' (i + 1)
  gather-turn i out out' inv h =
      record {
        got =
            h ∙ those-of out (λ a. ltb a i and p a) (λ a t. t or p i and eqb a i) inv.got
            ∙ those-ext (λ a. ltb a i and p a or p i and eqb a i) (λ a. ltb a (i + 1) and p a) (λ a la. next a i (p a) (p i) (λ same. ap p (sym same)));
      }

  pub gather-end : (i : ℕ) (out : Set) → Gathered p out i → width ≤ i → out ≡ those p
  gather-end i out inv h =
      inv.got ∙ those-ext (λ a. ltb a i and p a) p (λ a la. ap (λ (t : Bool). t and p a) (lt-ltb a i (omega arith)) ∙ true-and (p a))

pub ruleset gathering = (gather-start, gather-turn)

-- ---- a loop that scatters: target by target, into the rows of its sources

-- the pairs of a relation with a target below i
unfoldable pub onto : Relation → ℕ → Relation
onto G i a x = ltb x i and G a x

module _ (G : Relation) where
  pub scatter-start : (out : List ℕ) → out ≡ no_rows → out ≡ rows_of (onto G 0)
  unfolding onto
  scatter-start out e = e ∙ empty-rows_of (onto G 0) (λ a x la lx. ap (λ (t : Bool). t and G a x) (le-ltb x 0 (omega arith)) ∙ false-and (G a x))

  pub scatter-end : (i : ℕ) (out : List ℕ) → width ≤ i → out ≡ rows_of (onto G i) → out ≡ rows_of G
  unfolding onto
  scatter-end i out h e = e ∙ rows_of-ext (onto G i) G (λ a x la lx. ap (λ (t : Bool). t and G a x) (lt-ltb x i (omega arith)) ∙ true-and (G a x))

  -- the target i joins the rows of its sources
  scatter : (i : ℕ) (p : ℕ → Bool) → i < width → ((a : ℕ) → a < width → G a i ≡ p a) → rows_of (λ a x. onto G i a x or p a and eqb x i) ≡ rows_of (onto G (i + 1))
  unfolding onto
  scatter i p l h = rows_of-ext (λ a x. onto G i a x or p a and eqb x i) (onto G (i + 1)) (λ a x la lx. next x i (G a x) (p a) (λ same. sym (h a la) ∙ ap (G a) (sym same)))

  -- the sources are a set
  pub scatter-all : (i : ℕ) (s one : Set) (out out' : List ℕ) → i < width → Is s (λ a. G a i) → out ≡ rows_of (onto G i)
      → one ≡ those (λ b. eqb b i) → ((r : Relation) → out ≡ rows_of r → out' ≡ rows_of (λ a x. r a x or mem s a and mem one x)) → out' ≡ rows_of (onto G (i + 1))
  scatter-all i s one out out' l hs ho h1 h =
      h (onto G i) ho
      ∙ rows_of-ext (λ a x. onto G i a x or mem s a and mem one x) (λ a x. onto G i a x or mem s a and eqb x i)
      (λ a x la lx. ap (λ (t : Bool). onto G i a x or mem s a and t) (is-those one (λ b. eqb b i) h1 x lx))
      ∙ scatter i (mem s) l (λ a la. sym (hs a la))

pub turned_turn : (rows : List ℕ) (i : ℕ) (s one : Set) (out out' : List ℕ) → i < width → out ≡ rows_of (onto (turned rows) i) → s ≡ row_at rows i
    → one ≡ those (λ b. eqb b i) → ((r : Relation) → out ≡ rows_of r → out' ≡ rows_of (λ a x. r a x or mem s a and mem one x)) → out' ≡ rows_of (onto (turned rows) (i + 1))
unfolding turned
turned_turn rows i s one out out' l ho hs h1 h = scatter-all (turned rows) i s one out out' l (is_row s rows i hs) ho h1 h

pub ruleset scattering = (scatter-start, scatter-end, turned_turn)

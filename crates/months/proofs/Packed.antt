-- Sets in bytes, one after another: one that is read, one that is put, and the sets of the pairs, which gain. All are in the narrow form.
-- Assumes nothing.
use mathlib.Core.Path.{◌≡◌, refl, sym, ap, ap₂, ◌∙◌}
use mathlib.Core.Bool.{Bool, true, false}
use mathlib.Core.List.{List, [], ◌++◌, append_assoc, append-nil}
use Prim.Native.Nat.{ℕ, zero, suc, ◌+◌, ◌-◌, ◌*◌, ◌/◌, ◌%◌, ◌≤◌, ◌<◌}
use native.Mathlib.Nat.{suc-add, add-suc, add-zero, zero-add}
use native.Mathlib.Omega.{arith}
use borrow.Author.Tests.{lt-ltb, le-ltb, ltb-true, ltb-false, ne_eqb, eqb-true, eqb-false}
use lib.Dec.{eqb, ltb, eqb_refl}
use lib.ListN.{length, take, drop, length-append, length-drop, take-append-drop}
use lib.Seq.{sets, sets-eq, take_at, drop_at, drop-drop, drop-append-add, length-take-le}
use Rattle.sets.specs.Tests.{◌and◌, ◌or◌, when◌then◌else◌}
use Rattle.sets.specs.Members.{mem, those}
use Rattle.sets.specs.declared.set.Set.{Set}
use Rattle.sets.proofs.Tests.{T→true, F→false, split, either, or-false, false-and, true-and}
use Rattle.sets.proofs.Members.{those-ext, those-of}
use Rattle.octets.specs.Sets.{set_length, set_bytes, set_at, set_put}
use Rattle.octets.proofs.Parts.{part}
use Rattle.octets.proofs.SetLaws.{length-set, put-there}
use Rattle.months.specs.Layout.{tally_width, set_count, first_pair, pair_set, sets_from, set_in}
use Rattle.months.specs.Pairs.{Pairs, over, packed}
use Rattle.months.proofs.Narrow.{narrowed, narrow-read}
use Rattle.octets.proofs.SetLaws.{narrow-ext}

-- ---- how long, and one set among them

pub length_from : (n w : ℕ) (f : ℕ → Set) → length (sets_from n w f) ≡ set_length false * n
unfolding sets_from
length_from zero w f = refl
length_from (suc n) w f =
    length-append (set_bytes false (f w)) (sets_from n (suc w) f) ∙ omega (arith, length-set false (f w), length_from n (suc w) f)

pub from-ext : (n w : ℕ) (f g : ℕ → Set) → ((v : ℕ) → w ≤ v → v < w + n → set_bytes false (f v) ≡ set_bytes false (g v))
    → sets_from n w f ≡ sets_from n w g
unfolding sets_from
from-ext zero w f g e = refl
from-ext (suc n) w f g e =
    ap₂ ◌++◌ (e w (omega arith) (omega arith)) (from-ext n (suc w) f g (λ v a b. e v (omega arith) (omega arith)))

pub from-split : (a b w : ℕ) (f : ℕ → Set) → sets_from (a + b) w f ≡ sets_from a w f ++ sets_from b (w + a) f
unfolding sets_from
from-split zero b w f = ap₂ (λ (n v : ℕ). sets_from n v f) (zero-add b) (sym (add-zero w))
from-split (suc a) b w f =
    ap (λ (n : ℕ). sets_from n w f) (suc-add a b)
    ∙ ap (λ (l : List ℕ). set_bytes false (f w) ++ l) (from-split a b (suc w) f ∙ ap (λ (v : ℕ). sets_from a (suc w) f ++ sets_from b v f)
    (suc-add w a ∙ sym (add-suc w a)))
    ∙ sym (append_assoc (set_bytes false (f w)) (sets_from a (suc w) f) (sets_from b (w + suc a) f))

-- what stands before set k, set k, and the rest
module _ (n k : ℕ) (f : ℕ → Set) (tail : List ℕ) (h : k < n) where
  abbrev before : List ℕ
  before = sets_from k 0 f

  abbrev after : List ℕ
  after = sets_from (n - suc k) (suc k) f ++ tail

  among : sets_from n 0 f ++ tail ≡ before ++ (set_bytes false (f k) ++ after)
  unfolding sets_from
  among =
      let same : n ≡ k + suc (n - suc k) = omega arith in
      ap (λ (l : List ℕ). l ++ tail) (ap (λ (m : ℕ). sets_from m 0 f) same ∙ from-split k (suc (n - suc k)) 0 f
      ∙ ap (λ (v : ℕ). before ++ sets_from (suc (n - suc k)) v f) (zero-add k))
      ∙ append_assoc before (set_bytes false (f k) ++ sets_from (n - suc k) (suc k) f) tail
      ∙ ap (λ (l : List ℕ). before ++ l) (append_assoc (set_bytes false (f k)) (sets_from (n - suc k) (suc k) f) tail)

  place : length before ≡ set_length false * k
  place = length_from k 0 f

  pub room-for_lem : set_length false * k + set_length false ≤ length (sets_from n 0 f ++ tail)
  room-for_lem = omega (arith, length-append (sets_from n 0 f) tail, length_from n 0 f)

  pub read-from : (p : ℕ → Bool) → f k ≡ those p → set_at false (sets_from n 0 f ++ tail) (set_length false * k) ≡ narrowed p
  read-from p e =
      narrow-read (sets_from n 0 f ++ tail) (set_length false * k) p
      (ap (λ (l : List ℕ). part l (set_length false * k) (set_length false)) among
      ∙ ap (take (set_length false)) (drop_at before (set_bytes false (f k) ++ after) (set_length false * k) place)
      ∙ take_at (set_bytes false (f k)) after (set_length false) (length-set false (f k))
      ∙ ap (set_bytes false) e)

-- a part stored over one as long
stored-over : (p x y rest : List ℕ) (i n : ℕ) → length p ≡ i → length x ≡ n → length y ≡ n → sets (p ++ (x ++ rest)) i y ≡ p ++ (y ++ rest)
stored-over p x y rest i n hp hx hy =
    sets-eq y (p ++ (x ++ rest)) i (omega (arith, length-append p (x ++ rest), length-append x rest))
    ∙ append_assoc (take i (p ++ (x ++ rest))) y (drop (i + length y) (p ++ (x ++ rest)))
    ∙ ap₂ (λ (a b : List ℕ). a ++ (y ++ b)) (take_at p (x ++ rest) i hp)
    (ap (λ (m : ℕ). drop m (p ++ (x ++ rest))) (ap₂ ◌+◌ (sym hp) hy) ∙ drop-append-add p (x ++ rest) n ∙ drop_at x rest n hx)

abbrev pub with_set : (ℕ → Set) → ℕ → Set → ℕ → Set
with_set f k s v = when eqb v k then s else f v

pub put-from : (n k : ℕ) (f : ℕ → Set) (tail : List ℕ) (s : Set) → k < n
    → set_put false (sets_from n 0 f ++ tail) (set_length false * k) s ≡ sets_from n 0 (with_set f k s) ++ tail
put-from n k f tail s h =
    put-there false (sets_from n 0 f ++ tail) (set_length false * k) s (room-for_lem n k f tail h)
    ∙ ap (λ (l : List ℕ). sets l (set_length false * k) (set_bytes false s)) (among n k f tail h)
    ∙ stored-over (sets_from k 0 f) (set_bytes false (f k)) (set_bytes false s) (sets_from (n - suc k) (suc k) f ++ tail) (set_length false * k) (set_length false) (place n k f tail h) (length-set false (f k)) (length-set false s)
    ∙ (λ i. early i ++ (set_bytes false (here i) ++ (late i ++ tail)))
    ∙ sym (among n k (with_set f k s) tail h)
  where
    other : (v : ℕ) → (v ≡ k → ⊥) → set_bytes false (f v) ≡ set_bytes false (with_set f k s v)
    other v ne = ap (λ (t : Bool). set_bytes false (when t then s else f v)) (sym (ne_eqb v k ne))

    early : sets_from k 0 f ≡ sets_from k 0 (with_set f k s)
    early = from-ext k 0 f (with_set f k s) (λ v a b. other v (λ e. omega arith))

    here : s ≡ with_set f k s k
    here = ap (λ (t : Bool). when t then s else f k) (sym (T→true (eqb k k) (eqb_refl k)))

    late : sets_from (n - suc k) (suc k) f ≡ sets_from (n - suc k) (suc k) (with_set f k s)
    late = from-ext (n - suc k) (suc k) f (with_set f k s) (λ v a b. other v (λ e. omega arith))

-- one set more than before, where any bytes stood; behind others
module _ (pre : List ℕ) (at k : ℕ) (f : ℕ → Set) (out out' bytes : List ℕ) (hp : length pre ≡ at) where
  abbrev so-far_lem : List ℕ
  so-far_lem = pre ++ sets_from k 0 f

  abbrev place-next : ℕ
  place-next = at + set_length false * k

  pub put-after : place-next + set_length false ≤ length bytes → out ≡ pre ++ sets_from k 0 f ++ drop (at + set_length false * k) bytes
      → out' ≡ set_put false out (at + set_length false * k) (f k) → out' ≡ pre ++ sets_from (k + 1) 0 f ++ drop (at + set_length false * (k + 1)) bytes
  unfolding sets_from
  put-after h e p =
      let left = length-drop place-next bytes in
      let long : length so-far_lem ≡ place-next = length-append pre (sets_from k 0 f) ∙ omega (arith, length_from k 0 f) in
      let rest : List ℕ = drop place-next bytes in
      let next : place-next + set_length false ≡ at + set_length false * (k + 1) = omega arith in
      p
      ∙ ap (λ (l : List ℕ). set_put false l place-next (f k)) e
      ∙ put-there false (so-far_lem ++ rest) place-next (f k) (omega (arith, length-append so-far_lem rest))
      ∙ ap (λ (l : List ℕ). sets (so-far_lem ++ l) place-next (set_bytes false (f k))) (sym (take-append-drop (set_length false) rest))
      ∙ stored-over so-far_lem (take (set_length false) rest) (set_bytes false (f k)) (drop (set_length false) rest) place-next (set_length false) long
      (length-take-le (set_length false) rest (omega arith)) (length-set false (f k))
      ∙ sym (append_assoc so-far_lem (set_bytes false (f k)) (drop (set_length false) rest))
      ∙ ap₂ ◌++◌
      (append_assoc pre (sets_from k 0 f) (set_bytes false (f k))
      ∙ ap (λ (l : List ℕ). pre ++ l)
      (sym (from-split k 1 0 f ∙ ap (λ (l : List ℕ). sets_from k 0 f ++ l) (append-nil (set_bytes false (f (0 + k))) ∙ ap (λ (v : ℕ). set_bytes false (f v)) (zero-add k)))))
      (drop-drop (set_length false) place-next bytes ∙ ap (λ (m : ℕ). drop m bytes) next)

pub put_next : (k : ℕ) (f : ℕ → Set) (out out' bytes : List ℕ) → set_length false * k + set_length false ≤ length bytes
    → out ≡ sets_from k 0 f ++ drop (set_length false * k) bytes → out' ≡ set_put false out (set_length false * k) (f k)
    → out' ≡ sets_from (k + 1) 0 f ++ drop (set_length false * (k + 1)) bytes
put_next k f out out' bytes h e p =
    put-after [] 0 k f out out' bytes refl (omega arith) (e ∙ ap (λ (n : ℕ). sets_from k 0 f ++ drop n bytes) (sym (zero-add (set_length false * k))))
    (p ∙ ap (λ (n : ℕ). set_put false out n (f k)) (sym (zero-add (set_length false * k))))
    ∙ ap (λ (n : ℕ). sets_from (k + 1) 0 f ++ drop n bytes) (zero-add (set_length false * (k + 1)))

-- ---- the sets of the pairs

module _ (base : ℕ → Set) (p : Pairs) where
  pub over-low : (w : ℕ) → w < first_pair → over base p w ≡ base w
  unfolding over
  over-low w l = ap (λ (t : Bool). when t then base w else those (p ((w - first_pair) / tally_width) ((w - first_pair) % tally_width))) (lt-ltb w first_pair l)

  pub over-high : (w : ℕ) → first_pair ≤ w → over base p w ≡ those (p ((w - first_pair) / tally_width) ((w - first_pair) % tally_width))
  unfolding over
  over-high w l = ap (λ (t : Bool). when t then base w else those (p ((w - first_pair) / tally_width) ((w - first_pair) % tally_width))) (le-ltb w first_pair l)

  pub over-pair : (u s : ℕ) → s < tally_width → over base p (pair_set u s) ≡ those (p u s)
  over-pair u s l =
      let a : (pair_set u s - first_pair) / tally_width ≡ u = omega arith in
      let b : (pair_set u s - first_pair) % tally_width ≡ s = omega arith in
      over-high (pair_set u s) (omega arith) ∙ ap₂ (λ (x y : ℕ). those (p x y)) a b

-- whose pair a set is
abbrev first : ℕ → ℕ
first w = (w - first_pair) / tally_width

abbrev second : ℕ → ℕ
second w = (w - first_pair) % tally_width

by-low : (P : ℕ → Type 0) (w : ℕ) → (w < first_pair → P w) → (first_pair ≤ w → P w) → P w
by-low P w low high =
    either (split (ltb w first_pair)) (λ t. low (ltb-true w first_pair (T→true _ t))) (λ f. high (ltb-false w first_pair (F→false _ f)))

pub packed-ext : (base : ℕ → Set) (p q : Pairs) (tail : List ℕ) → ((u s v : ℕ) → u < tally_width → s < tally_width → v < tally_width → p u s v ≡ q u s v)
    → packed base p tail ≡ packed base q tail
unfolding packed
packed-ext base p q tail e =
    ap (λ (l : List ℕ). l ++ tail) (from-ext set_count 0 (over base p) (over base q)
    (λ w a b. by-low (λ v. set_bytes false (over base p v) ≡ set_bytes false (over base q v)) w
    (λ l. ap (set_bytes false) (over-low base p w l ∙ sym (over-low base q w l)))
    (λ l.
    ap (set_bytes false) (over-high base p w l)
    ∙ narrow-ext _ _ (λ v lv. e _ _ v (omega arith) (omega arith) lv)
    ∙ ap (set_bytes false) (sym (over-high base q w l)))))

module _ (base : ℕ → Set) (p : Pairs) (tail bytes : List ℕ) (h : bytes ≡ packed base p tail) (u s : ℕ) (lu : u < tally_width) (ls : s < tally_width) where
  pub read-pair : set_in bytes (pair_set u s) ≡ narrowed (p u s)
  unfolding packed
  read-pair =
      ap (λ (l : List ℕ). set_in l (pair_set u s)) h
      ∙ read-from set_count (pair_set u s) (over base p) tail (omega arith) (p u s) (over-pair base p u s ls)

  abbrev pub gaining : (ℕ → Bool) → Pairs
  gaining q x y v = p x y v or eqb x u and (eqb y s and q v)

  same_set : (q : ℕ → Bool) (w : ℕ) → w < set_count → with_set (over base p) (pair_set u s) (those (λ v. p u s v or q v)) w ≡ over base (gaining q) w
  same_set q w l =
      by-low (λ x. with_set (over base p) (pair_set u s) (those (λ v. p u s v or q v)) x ≡ over base (gaining q) x) w
      (λ low.
      ap (λ (t : Bool). when t then those (λ v. p u s v or q v) else over base p w) (ne_eqb w (pair_set u s) (λ e. omega arith))
      ∙ over-low base p w low ∙ sym (over-low base (gaining q) w low))
      (λ high. at high (eqb w (pair_set u s)) refl ∙ sym (over-high base (gaining q) w high))
    where
      apart : first_pair ≤ w → (w ≡ pair_set u s → ⊥) → (v : ℕ) (t t' : Bool) → eqb (first w) u ≡ t → eqb (second w) s ≡ t' → (t and (t' and q v)) ≡ false
      apart high ne v false t' e e' = false-and (t' and q v)
      apart high ne v true false e e' = true-and (false and q v) ∙ false-and (q v)
      apart high ne v true true e e' = absurd (ne (omega (arith, eqb-true (first w) u e, eqb-true (second w) s e')))

      at : first_pair ≤ w → (t : Bool) → eqb w (pair_set u s) ≡ t
          → (when t then those (λ v. p u s v or q v) else over base p w) ≡ those (gaining q (first w) (second w))
      at high true e =
          let same : w ≡ pair_set u s = eqb-true w (pair_set u s) e in
          let x : u ≡ first w = omega arith in
          let y : s ≡ second w = omega arith in
          those-ext (λ v. p u s v or q v) (gaining q u s)
          (λ v l. ap (λ (t : Bool). p u s v or t) (sym (ap₂ (λ (c d : Bool). c and (d and q v)) (T→true _ (eqb_refl u)) (T→true _ (eqb_refl s))
          ∙ true-and (true and q v) ∙ true-and (q v))))
          ∙ ap₂ (λ (m n : ℕ). those (gaining q m n)) x y
      at high false e =
          over-high base p w high
          ∙ those-ext (p (first w) (second w)) (gaining q (first w) (second w))
          (λ v l. sym (ap (λ (t : Bool). p (first w) (second w) v or t) (apart high (eqb-false w (pair_set u s) e) v (eqb (first w) u) (eqb (second w) s) refl refl) ∙ or-false (p (first w) (second w) v)))

  -- what is read has no member that the narrow form cannot hold, and what is put leaves none
  once_more : (q : ℕ → Bool) (w : ℕ) (t : Bool) → set_bytes false (when t then those (λ v. ltb v tally_width and p u s v or q v) else over base p w)
      ≡ set_bytes false (when t then those (λ v. p u s v or q v) else over base p w)
  once_more q w true =
      narrow-ext _ _ (λ v l. ap (λ (b : Bool). b or q v) (ap (λ (b : Bool). b and p u s v) (lt-ltb v tally_width l) ∙ true-and (p u s v)))
  once_more q w false = refl

  pub gain-pair : (q : ℕ → Bool)
      → set_put false bytes (set_length false * pair_set u s) (those (λ v. mem (set_in bytes (pair_set u s)) v or q v)) ≡ packed base (gaining q) tail
  unfolding packed
  gain-pair q =
      ap₂ (λ (l : List ℕ) (x : Set). set_put false l (set_length false * pair_set u s) x) h
      (those-of (set_in bytes (pair_set u s)) (λ v. ltb v tally_width and p u s v) (λ v t. t or q v) read-pair)
      ∙ put-from set_count (pair_set u s) (over base p) tail (those (λ v. ltb v tally_width and p u s v or q v)) (omega arith)
      ∙ ap (λ (l : List ℕ). l ++ tail)
      (from-ext set_count 0 (with_set (over base p) (pair_set u s) (those (λ v. ltb v tally_width and p u s v or q v))) (over base (gaining q))
      (λ w x y. once_more q w (eqb w (pair_set u s)) ∙ ap (set_bytes false) (same_set q w y)))

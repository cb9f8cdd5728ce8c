-- Some, every, how many, and the least, of the numbers below any width. Assumes nothing.
use mathlib.Core.Path.{◌≡◌, refl, sym, ap, ap₂, ◌∙◌, subst}
use mathlib.Core.Bool.{Bool, true, false}
use mathlib.Core.Logic.{◌⊎◌, inl, inr}
use Prim.Native.Nat.{ℕ, zero, suc, ◌+◌, ◌-◌, ◌*◌, ◌/◌, ◌%◌, ◌^◌, ◌≤◌, ◌<◌, suc-le-suc}
use native.Mathlib.Nat.{not-suc-le-zero, le_of_suc-le-suc, mod-lt, zero-lt-suc, zero-add, suc-add, add_assoc}
use native.Mathlib.Omega.{arith}
use borrow.Author.Tests.{ne_eqb, eqb-true, eqb-false, lt-ltb, ltb-true, ltb-false}
use lib.Arith.{lt-one, lt_of_le-ne}
use lib.Dec.{T, eqb, ltb, eqb→eq, eqb_refl, eqb-suc-zero, eqb-zero-suc, eqb-suc-suc}
use lib.Bits.{bit_and, and_shr}
use lib.Count.{ones, ones_step, count_trailing_zeros, under}
use Rattle.sets.specs.Tests.{◌and◌, ◌or◌, non, when◌then◌else◌}
use Rattle.sets.specs.Members.{digit, bit, bits_of, some_below, every_below, count_below, least_below, end_below, or_next}
use Rattle.sets.proofs.Tests.{and_l, and_r, and_i, or-e, or_l, or_r, T-ext, non-i, non-e, and-true, and_assoc, or_comm, or_assoc, T→true, true→T, F→false, false→F, split, either}
use Rattle.sets.proofs.Bits.{bit-first, bit-next, bit-and, digit-first, half_lt}

-- ---- some and every, number by number

pub some-i : (w : ℕ) (p : ℕ → Bool) (a : ℕ) → a < w → T (p a) → T (some_below w p)
unfolding some_below
some-i zero p a l t = absurd (not-suc-le-zero l)
some-i (suc w) p zero l t = or_l _ _ t
some-i (suc w) p (suc a) l t = or_r _ _ (some-i w (λ b. p (suc b)) a (le_of_suc-le-suc l) t)

pub some-e : (w : ℕ) (p : ℕ → Bool) → T (some_below w p) → (a : ℕ) × (a < w) × T (p a)
unfolding some_below
some-e zero p t = absurd t
some-e (suc w) p t = go (or-e _ _ t) (λ k. some-e w (λ b. p (suc b)) k)
  where
    go : T (p 0) ⊎ T (some_below w (λ b. p (suc b))) → (T (some_below w (λ b. p (suc b))) → (a : ℕ) × (a < w) × T (p (suc a)))
        → (a : ℕ) × (a < suc w) × T (p a)
    go (inl h) ih = (0, zero-lt-suc w, h)
    go (inr h) ih = let r = ih h in (suc r.0, suc-le-suc r.1, r.2)

pub every-i : (w : ℕ) (p : ℕ → Bool) → ((a : ℕ) → a < w → T (p a)) → T (every_below w p)
unfolding every_below
every-i zero p f = tt
every-i (suc w) p f = and_i _ _ (f 0 (zero-lt-suc w)) (every-i w (λ b. p (suc b)) (λ a l. f (suc a) (suc-le-suc l)))

pub every-e : (w : ℕ) (p : ℕ → Bool) → T (every_below w p) → (a : ℕ) → a < w → T (p a)
unfolding every_below
every-e zero p t a l = absurd (not-suc-le-zero l)
every-e (suc w) p t zero l = and_l _ _ t
every-e (suc w) p t (suc a) l = every-e w (λ b. p (suc b)) (and_r _ _ t) a (le_of_suc-le-suc l)

pub some-ext : (w : ℕ) (p q : ℕ → Bool) → ((a : ℕ) → a < w → p a ≡ q a) → some_below w p ≡ some_below w q
unfolding some_below
some-ext zero p q e = refl
some-ext (suc w) p q e = ap₂ ◌or◌ (e 0 (zero-lt-suc w)) (some-ext w (λ a. p (suc a)) (λ a. q (suc a)) (λ a l. e (suc a) (suc-le-suc l)))

-- the last by itself
pub some-last : (w : ℕ) (p : ℕ → Bool) → some_below (suc w) p ≡ (some_below w p or p w)
unfolding some_below
some-last zero p = or_comm (p 0) false
some-last (suc w) p =
    ap (λ (t : Bool). p 0 or t) (some-last w (λ a. p (suc a))) ∙ sym (or_assoc (p 0) (some_below w (λ a. p (suc a))) (p (suc w)))

-- with one number more
pub some_more : (w : ℕ) (p q : ℕ → Bool) (k : ℕ) → (T (q k) → k < w)
    → some_below w (λ a. (p a or eqb a k) and q a) ≡ (some_below w (λ a. p a and q a) or q k)
some_more w p q k l =
    T-ext _ _
    (λ t.
    let r = some-e w (λ a. (p a or eqb a k) and q a) t in
    either (or-e _ _ (and_l _ _ r.2))
    (λ h. or_l _ _ (some-i w _ r.0 r.1 (and_i _ _ h (and_r _ _ r.2))))
    (λ e. or_r _ _ (subst (λ (n : ℕ). T (q n)) (eqb→eq r.0 k e) (and_r _ _ r.2))))
    (λ t.
    either (or-e _ _ t)
    (λ h. let r = some-e w (λ a. p a and q a) h in some-i w _ r.0 r.1 (and_i _ _ (or_l _ _ (and_l _ _ r.2)) (and_r _ _ r.2)))
    (λ h. some-i w _ k (l h) (and_i _ _ (or_r _ _ (eqb_refl k)) h)))

pub every-ext : (w : ℕ) (p q : ℕ → Bool) → ((a : ℕ) → a < w → p a ≡ q a) → every_below w p ≡ every_below w q
unfolding every_below
every-ext zero p q e = refl
every-ext (suc w) p q e = ap₂ ◌and◌ (e 0 (zero-lt-suc w)) (every-ext w (λ a. p (suc a)) (λ a. q (suc a)) (λ a l. e (suc a) (suc-le-suc l)))

-- every passes where none fails
pub non-some : (w : ℕ) (p : ℕ → Bool) → non (some_below w p) ≡ every_below w (λ a. non (p a))
non-some w p =
    T-ext _ _
    (λ h. every-i w (λ a. non (p a)) (λ a l. non-i (p a) (λ t. non-e (some_below w p) h (some-i w p a l t))))
    (λ h. non-i (some_below w p) (λ t. let r = some-e w p t in non-e (p r.0) (every-e w (λ a. non (p a)) h r.0 r.1) r.2))

-- ---- a number is 0 where no digit of it is 1

zero_test : (b t : Bool) (s : ℕ) → t ≡ eqb s 0 → (non b and t) ≡ eqb (digit b + 2 * s) 0
unfolding ◌and◌ non
zero_test true t s e = sym (ne_eqb (1 + 2 * s) 0 (λ q. omega arith))
zero_test false t zero e = e
zero_test false t (suc s) e = e ∙ ne_eqb (suc s) 0 (λ q. omega arith) ∙ sym (ne_eqb (0 + 2 * suc s) 0 (λ q. omega arith))

pub none-zero : (w : ℕ) (p : ℕ → Bool) → every_below w (λ a. non (p a)) ≡ eqb (bits_of w p) 0
unfolding every_below bits_of
none-zero zero p = refl
none-zero (suc w) p = zero_test (p 0) (every_below w (λ a. non (p (suc a)))) (bits_of w (λ a. p (suc a))) (none-zero w (λ a. p (suc a)))

-- ---- how many

pub count-ext : (w : ℕ) (p q : ℕ → Bool) → ((a : ℕ) → a < w → p a ≡ q a) → count_below w p ≡ count_below w q
unfolding count_below
count-ext zero p q e = refl
count-ext (suc w) p q e =
    ap₂ (λ (m n : ℕ). m + n) (ap digit (e 0 (zero-lt-suc w)))
    (count-ext w (λ a. p (suc a)) (λ a. q (suc a)) (λ a l. e (suc a) (suc-le-suc l)))

-- one number more
pub count-last : (w : ℕ) (p : ℕ → Bool) → count_below (suc w) p ≡ count_below w p + digit (p w)
unfolding count_below
count-last zero p = omega arith
count-last (suc w) p =
    ap (λ (n : ℕ). digit (p 0) + n) (count-last w (λ a. p (suc a)))
    ∙ sym (add_assoc (digit (p 0)) (count_below w (λ a. p (suc a))) (digit (p (suc w))))

pub count-le : (w : ℕ) (p : ℕ → Bool) → count_below w p ≤ w
unfolding count_below
count-le zero p = omega arith
count-le (suc w) p = by (p 0) (count-le w (λ a. p (suc a)))
  where
    by : (b : Bool) → count_below w (λ a. p (suc a)) ≤ w → digit b + count_below w (λ a. p (suc a)) ≤ suc w
    by true h = omega arith
    by false h = omega arith

-- the machine's count of ones
pub ones-count : (w x : ℕ) → x < 2 ^ w → ones x ≡ count_below w (bit x)
unfolding count_below ones
ones-count zero x h = ap ones (lt-one h)
ones-count (suc w) x h =
    ones_step x
    ∙ ap₂ (λ (m n : ℕ). m + n) (sym (digit-first x))
    (ones-count w (x / 2) (half_lt w x h) ∙ count-ext w (bit (x / 2)) (λ a. bit x (suc a)) (λ a l. sym (bit-next x a)))

-- a number other than k keeps its answer where k is taken away
kept : (t k : Bool) → k ≡ false → (t and non k) ≡ t
unfolding non
kept t k e = ap (λ (x : Bool). t and non x) e ∙ and-true t

gone : (t k : Bool) → k ≡ true → (t and non k) ≡ false
unfolding ◌and◌ non
gone true k e = ap non e
gone false k e = refl

-- without one that passed, one less passes: the measure of a loop over a set's members
pub count_less : (w : ℕ) (p : ℕ → Bool) (k : ℕ) → k < w → T (p k) → count_below w p ≡ suc (count_below w (λ b. p b and non (eqb b k)))
unfolding count_below
count_less zero p k l t = absurd (not-suc-le-zero l)
count_less (suc w) p zero l t =
    let same = count-ext w (λ b. p (suc b) and non (eqb (suc b) 0)) (λ b. p (suc b)) (λ b i. kept (p (suc b)) _ (eqb-suc-zero b)) in
    rw (same, gone (p 0) (eqb 0 0) refl, T→true (p 0) t) (omega arith)
count_less (suc w) p (suc k) l t =
    let same =
    count-ext w (λ b. p (suc b) and non (eqb (suc b) (suc k))) (λ b. p (suc b) and non (eqb b k)) (λ b i. ap (λ (x : Bool). p (suc b) and non x) (eqb-suc-suc b k)) in
    rw (same, kept (p 0) (eqb 0 (suc k)) (eqb-zero-suc k)) (omega (arith, count_less w (λ b. p (suc b)) k (le_of_suc-le-suc l) t))

-- ---- the least

pub least-ext : (w : ℕ) (p q : ℕ → Bool) → ((a : ℕ) → a < w → p a ≡ q a) → least_below w p ≡ least_below w q
unfolding least_below
least-ext zero p q e = refl
least-ext (suc w) p q e =
    ap₂ or_next (e 0 (zero-lt-suc w)) (least-ext w (λ a. p (suc a)) (λ a. q (suc a)) (λ a l. e (suc a) (suc-le-suc l)))

pub least-le : (w : ℕ) (p : ℕ → Bool) → least_below w p ≤ w
unfolding least_below
least-le zero p = omega arith
least-le (suc w) p = by (p 0) (least-le w (λ a. p (suc a)))
  where
    by : (b : Bool) → least_below w (λ a. p (suc a)) ≤ w → or_next b (least_below w (λ a. p (suc a))) ≤ suc w
    by true h = omega arith
    by false h = suc-le-suc h

-- it passes, where one does
pub least-is : (w : ℕ) (p : ℕ → Bool) → least_below w p < w → T (p (least_below w p))
unfolding least_below
least-is zero p l = absurd (not-suc-le-zero l)
least-is (suc w) p l = by (λ k. least-is w (λ b. p (suc b)) k) (p 0) refl l
  where
    by : (least_below w (λ b. p (suc b)) < w → T (p (suc (least_below w (λ b. p (suc b))))))
        → (t : Bool) → p 0 ≡ t → or_next t (least_below w (λ b. p (suc b))) < suc w → T (p (or_next t (least_below w (λ b. p (suc b)))))
    by ih true e k = true→T e
    by ih false e k = ih (le_of_suc-le-suc k)

-- and none before it does
pub least-before : (w : ℕ) (p : ℕ → Bool) (a : ℕ) → a < least_below w p → p a ≡ false
unfolding least_below
least-before zero p a l = absurd (not-suc-le-zero l)
least-before (suc w) p a l = by (λ b k. least-before w (λ c. p (suc c)) b k) (p 0) refl a l
  where
    by : ((b : ℕ) → b < least_below w (λ c. p (suc c)) → p (suc b) ≡ false)
        → (t : Bool) → p 0 ≡ t → (b : ℕ) → b < or_next t (least_below w (λ c. p (suc c))) → p b ≡ false
    by ih true e b k = absurd (not-suc-le-zero k)
    by ih false e zero k = e
    by ih false e (suc b) k = ih b (le_of_suc-le-suc k)

-- where some number passes, the least is below the width
pub least_lt : (w : ℕ) (p : ℕ → Bool) → T (some_below w p) → least_below w p < w
unfolding some_below least_below ◌or◌
least_lt zero p t = absurd t
least_lt (suc w) p t = by (λ k. least_lt w (λ b. p (suc b)) k) (p 0) t
  where
    by : (T (some_below w (λ b. p (suc b))) → least_below w (λ b. p (suc b)) < w)
        → (x : Bool) → T (x or some_below w (λ b. p (suc b))) → or_next x (least_below w (λ b. p (suc b))) < suc w
    by ih true k = zero-lt-suc w
    by ih false k = suc-le-suc (ih k)

-- it is the only number with these three properties
pub least-only : (w : ℕ) (p : ℕ → Bool) (n : ℕ) → n ≤ w → (n < w → T (p n)) → ((a : ℕ) → a < w → T (p a) → n ≤ a) → n ≡ least_below w p
least-only w p n low passes first =
    let k = least_below w p in
    let reach = least-le w p in
    either (split (ltb n k))
    (λ h. let l = ltb-true n k (T→true _ h) in absurd (false→F (least-before w p n l) (passes (omega arith))))
    (λ h.
    let l = ltb-false n k (F→false _ h) in
    either (split (ltb k n))
    (λ g. let below = ltb-true k n (T→true _ g) in let up = first k (omega arith) (least-is w p (omega arith)) in absurd (omega arith))
    (λ g. let up = ltb-false k n (F→false _ g) in omega arith))

-- some number passes just where the least is below the width
pub some-least : (w : ℕ) (p : ℕ → Bool) → some_below w p ≡ ltb (least_below w p) w
some-least w p =
    T-ext _ _
    (λ t. true→T (lt-ltb (least_below w p) w (least_lt w p t)))
    (λ t. let l = ltb-true (least_below w p) w (T→true _ t) in some-i w p (least_below w p) l (least-is w p l))

-- the machine's trailing zeros
under-digit : (d t : ℕ) → d < 2 → under d t ≡ or_next (eqb d 1) t
under-digit zero t h = refl
under-digit (suc zero) t h = refl
under-digit (suc (suc d)) t h = absurd (not-suc-le-zero (le_of_suc-le-suc (le_of_suc-le-suc h)))

pub trailing-least : (w x : ℕ) → count_trailing_zeros w x ≡ least_below w (bit x)
unfolding least_below count_trailing_zeros
trailing-least zero x = refl
trailing-least (suc w) x =
    under-digit (x % 2) (count_trailing_zeros w (x / 2)) (mod-lt x (zero-lt-suc 1))
    ∙ ap₂ or_next (sym (bit-first x)) (trailing-least w (x / 2) ∙ least-ext w (bit (x / 2)) (λ a. bit x (suc a)) (λ a l. sym (bit-next x a)))

-- ---- the end

pub end-le : (w : ℕ) (p : ℕ → Bool) → end_below w p ≤ w
unfolding end_below
end-le zero p = omega arith
end-le (suc w) p = by (p w) (end-le w p)
  where
    by : (t : Bool) → end_below w p ≤ w → (when t then suc w else end_below w p) ≤ suc w
    by true h = omega arith
    by false h = omega arith

-- what passes is below it
pub end-past : (w : ℕ) (p : ℕ → Bool) (a : ℕ) → a < w → T (p a) → a < end_below w p
unfolding end_below
end-past zero p a l t = absurd (not-suc-le-zero l)
end-past (suc w) p a l t = by (λ k. end-past w p a k t) (p w) refl
  where
    by : (a < w → a < end_below w p) → (x : Bool) → p w ≡ x → a < (when x then suc w else end_below w p)
    by ih true e = l
    by ih false e = ih (lt_of_le-ne (le_of_suc-le-suc l) (λ q. false→F (ap p q ∙ e) t))

-- it is the only such number that is 0 or one more than a number that passes
pub end-only : (w : ℕ) (p : ℕ → Bool) (n : ℕ) → n ≤ w → ((a : ℕ) → a < w → T (p a) → a < n) → (0 < n → T (p (n - 1))) → n ≡ end_below w p
unfolding end_below
end-only zero p n l past last = omega arith
end-only (suc w) p n l past last = by (λ k. end-only w p n k (λ a h. past a (omega arith)) last) (p w) refl
  where
    by : (n ≤ w → n ≡ end_below w p) → (x : Bool) → p w ≡ x → n ≡ when x then suc w else end_below w p
    by ih true e = let top = past w (omega arith) (true→T e) in omega arith
    by ih false e =
        ih (le_of_suc-le-suc (lt_of_le-ne l (λ q.
        let same : n - 1 ≡ w = omega arith in
        false→F (ap p same ∙ e) (last (omega arith)))))

-- ---- the numbers below k + m: those below k, then k more than those below m

pub every-split : (k m : ℕ) (p : ℕ → Bool) → every_below (k + m) p ≡ (every_below k p and every_below m (λ a. p (k + a)))
unfolding every_below ◌and◌
every-split zero m p = ap (λ (n : ℕ). every_below n p) (zero-add m) ∙ every-ext m p (λ a. p (0 + a)) (λ a l. ap p (sym (zero-add a)))
every-split (suc k) m p =
    ap (λ (n : ℕ). every_below n p) (suc-add k m)
    ∙ ap (λ (t : Bool). p 0 and t) (every-split k m (λ b. p (suc b)))
    ∙ sym (and_assoc (p 0) (every_below k (λ b. p (suc b))) (every_below m (λ a. p (suc (k + a)))))
    ∙ ap (λ (t : Bool). p 0 and every_below k (λ b. p (suc b)) and t)
    (every-ext m (λ a. p (suc (k + a))) (λ a. p (suc k + a)) (λ a l. ap p (sym (suc-add k a))))

pub count-split : (k m : ℕ) (p : ℕ → Bool) → count_below (k + m) p ≡ count_below k p + count_below m (λ a. p (k + a))
unfolding count_below
count-split zero m p =
    ap (λ (n : ℕ). count_below n p) (zero-add m)
    ∙ count-ext m p (λ a. p (0 + a)) (λ a l. ap p (sym (zero-add a)))
    ∙ sym (zero-add (count_below m (λ a. p (0 + a))))
count-split (suc k) m p =
    let rest : count_below m (λ a. p (suc (k + a))) ≡ count_below m (λ a. p (suc k + a)) =
    count-ext m (λ a. p (suc (k + a))) (λ a. p (suc k + a)) (λ a l. ap p (sym (suc-add k a))) in
    ap (λ (n : ℕ). count_below n p) (suc-add k m) ∙ omega (arith, count-split k m (λ b. p (suc b)))

-- the least: among the first k where one of them passes, else among the m after them
pub least-here : (k m : ℕ) (p : ℕ → Bool) → T (some_below k p) → least_below (k + m) p ≡ least_below k p
unfolding some_below least_below ◌or◌
least-here zero m p t = absurd t
least-here (suc k) m p t = ap (λ (n : ℕ). least_below n p) (suc-add k m) ∙ by (λ h. least-here k m (λ b. p (suc b)) h) (p 0) t
  where
    by : (T (some_below k (λ b. p (suc b))) → least_below (k + m) (λ b. p (suc b)) ≡ least_below k (λ b. p (suc b)))
        → (x : Bool) → T (x or some_below k (λ b. p (suc b))) → or_next x (least_below (k + m) (λ b. p (suc b))) ≡ or_next x (least_below k (λ b. p (suc b)))
    by ih true h = refl
    by ih false h = ap suc (ih h)

pub least-past : (k m : ℕ) (p : ℕ → Bool) → ((a : ℕ) → a < k → p a ≡ false) → least_below (k + m) p ≡ k + least_below m (λ a. p (k + a))
unfolding least_below
least-past zero m p e =
    ap (λ (n : ℕ). least_below n p) (zero-add m)
    ∙ least-ext m p (λ a. p (0 + a)) (λ a l. ap p (sym (zero-add a)))
    ∙ sym (zero-add (least_below m (λ a. p (0 + a))))
least-past (suc k) m p e =
    ap (λ (n : ℕ). least_below n p) (suc-add k m)
    ∙ ap (λ (t : Bool). or_next t (least_below (k + m) (λ b. p (suc b)))) (e 0 (zero-lt-suc k))
    ∙ ap suc (least-past k m (λ b. p (suc b)) (λ a l. e (suc a) (suc-le-suc l)))
    ∙ ap (λ (n : ℕ). suc (k + n)) (least-ext m (λ a. p (suc (k + a))) (λ a. p (suc k + a)) (λ a l. ap p (sym (suc-add k a))))
    ∙ sym (suc-add k (least_below m (λ a. p (suc k + a))))

-- ---- `x & (x - 1)`: the digits of x without the least that is 1

and_same : (t : Bool) → (t and t) ≡ t
unfolding ◌and◌
and_same true = refl
and_same false = refl

-- its first digit is 0, whatever x is
cleared-first : (x : ℕ) → 0 < x → (t : Bool) → eqb (x % 2) 1 ≡ t → bit (bit_and x (x - 1)) 0 ≡ false
unfolding ◌and◌
cleared-first x p true e =
    let o = eqb-true (x % 2) 1 e in
    bit-and x (x - 1) 0 ∙ ap₂ ◌and◌ (bit-first x ∙ e) (bit-first (x - 1) ∙ ne_eqb ((x - 1) % 2) 1 (λ q. omega arith))
cleared-first x p false e = bit-and x (x - 1) 0 ∙ ap (λ (t : Bool). t and bit (x - 1) 0) (bit-first x ∙ e)

cleared-next : (x a : ℕ) → bit (bit_and x (x - 1)) (suc a) ≡ bit (bit_and (x / 2) ((x - 1) / 2)) a
cleared-next x a = bit-next (bit_and x (x - 1)) a ∙ ap (λ (n : ℕ). bit n a) (and_shr x (x - 1) 1)

pub cleared : (w x : ℕ) → 0 < x → x < 2 ^ w → (a : ℕ) → a < w → bit (bit_and x (x - 1)) a ≡ (bit x a and non (eqb a (least_below w (bit x))))
unfolding least_below ◌and◌ non
cleared zero x p h a l = absurd (not-suc-le-zero l)
cleared (suc w) x p h a l = by (λ q. cleared w (x / 2) q (half_lt w x h)) (bit x 0) refl a l
  where
    least : ℕ
    least = least_below w (λ b. bit x (suc b))

    by : (0 < x / 2 → (a : ℕ) → a < w → bit (bit_and (x / 2) (x / 2 - 1)) a ≡ (bit (x / 2) a and non (eqb a (least_below w (bit (x / 2))))))
        → (t : Bool) → bit x 0 ≡ t → (a : ℕ) → a < suc w → bit (bit_and x (x - 1)) a ≡ (bit x a and non (eqb a (or_next (bit x 0) least)))
    by ih true e zero l = cleared-first x p true (sym (bit-first x) ∙ e) ∙ sym (ap₂ (λ (s t : Bool). s and non (eqb 0 (or_next t least))) e e)
    by ih true e (suc a) l =
        let o = eqb-true (x % 2) 1 (sym (bit-first x) ∙ e) in
        let half : (x - 1) / 2 ≡ x / 2 = omega arith in
        cleared-next x a
        ∙ bit-and (x / 2) ((x - 1) / 2) a
        ∙ ap (λ (n : ℕ). bit (x / 2) a and bit n a) half
        ∙ and_same (bit (x / 2) a)
        ∙ sym (bit-next x a)
        ∙ sym (kept (bit x (suc a)) (eqb (suc a) (or_next (bit x 0) least)) (ap (λ (t : Bool). eqb (suc a) (or_next t least)) e ∙ eqb-suc-zero a))
    by ih false e zero l = cleared-first x p false (sym (bit-first x) ∙ e) ∙ sym (ap (λ (t : Bool). t and non (eqb 0 (or_next (bit x 0) least))) e)
    by ih false e (suc a) l =
        let z = eqb-false (x % 2) 1 (sym (bit-first x) ∙ e) in
        let half : (x - 1) / 2 ≡ x / 2 - 1 = omega arith in
        let tail : least ≡ least_below w (bit (x / 2)) = least-ext w (λ b. bit x (suc b)) (bit (x / 2)) (λ b k. bit-next x b) in
        cleared-next x a
        ∙ ap (λ (n : ℕ). bit (bit_and (x / 2) n) a) half
        ∙ ih (omega arith) a (le_of_suc-le-suc l)
        ∙ ap₂ (λ (s : Bool) (k : ℕ). s and non (eqb a k)) (sym (bit-next x a)) (sym tail)
        ∙ ap (λ (t : Bool). bit x (suc a) and non t) (sym (ap (λ (t : Bool). eqb (suc a) (or_next t least)) e ∙ eqb-suc-suc a least))

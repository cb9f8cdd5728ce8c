-- Rows of sets: what stands in a row, and rows that have a relation's members are the relation's rows. Assumes nothing.
use mathlib.Core.Path.{◌≡◌, refl, sym, ap, ap₂, ◌∙◌, subst}
use mathlib.Core.Bool.{Bool, true, false}
use mathlib.Core.List.{List, ◌++◌}
use Prim.Native.Nat.{ℕ, zero, suc, ◌+◌, ◌-◌, ◌^◌, ◌≤◌, ◌<◌}
use native.Mathlib.Nat.{not-suc-le-zero, le_of_suc-le-suc, add-zero, add-suc, suc-add, zero-add}
use native.Mathlib.Omega.{arith}
use borrow.Author.Tests.{lt-ltb, le-ltb, ltb-true, ltb-false, eqb-true, eqb-false}
use lib.Dec.{eqb, ltb}
use lib.ListN.{length, get_or, set, length-set, length-append, get_or-replicate, get_or-append}
use lib.Seq.{ext_get_or, get_or-set_same, get_or-set_other, get_or-append-add}
use Rattle.sets.specs.Tests.{◌and◌, ◌or◌, when◌then◌else◌}
use Rattle.sets.specs.Members.{width, word, bits_of, mem, those, no_set}
use Rattle.sets.specs.Rows.{Relation, row_words, no_rows, row_at, with_row, in_row, list_from, rows_of}
use Rattle.sets.specs.declared.set.Set.{Set}
use Rattle.sets.proofs.Tests.{T→true, F→false, split, either, or-false, true-and, false-and}
use Rattle.sets.proofs.Members.{Whole, those-mem, those-ext, mem-those}

-- ---- reading and writing a row

module _ (rows : List ℕ) (a : ℕ) where
  pub row-in_lem : a < width → ◌≡◌ {A = Set} (record { low = get_or rows a 0; high = get_or rows (width + a) 0 }) (row_at rows a)
  unfolding row_at
  row-in_lem l = rw (lt-ltb a width l)

  pub row_out : width ≤ a → no_set ≡ row_at rows a
  unfolding row_at
  row_out l = rw (le-ltb a width l)

  pub put_in : (s : Set) → a < width → set (set rows a s.low) (width + a) s.high ≡ with_row rows a s
  unfolding with_row
  put_in s l = rw (lt-ltb a width l)

  pub put-out : (s : Set) → width ≤ a → rows ≡ with_row rows a s
  unfolding with_row
  put-out s l = rw (le-ltb a width l)

  pub length-put : (s : Set) → length (with_row rows a s) ≡ length rows
  unfolding with_row
  length-put s = by (ltb a width)
    where
      by : (t : Bool) → length (when t then set (set rows a s.low) (width + a) s.high else rows) ≡ length rows
      by true = length-set (set rows a s.low) (width + a) s.high ∙ length-set rows a s.low
      by false = refl

-- rows of the code's numbers hold whole sets
pub row-whole : (rows : List ℕ) → ((i : ℕ) → get_or rows i 0 < 2 ^ word) → (a : ℕ) → Whole (row_at rows a)
row-whole rows small a =
    either (split (ltb a width))
    (λ t. subst Whole (row-in_lem rows a (ltb-true a width (T→true _ t)))
    (those-mem (record { low = get_or rows a 0; high = get_or rows (width + a) 0 }) (small a, small (width + a))))
    (λ f. subst Whole (row_out rows a (ltb-false a width (F→false _ f))) (those-mem no_set (omega arith, omega arith)))

pub row-none : (a : ℕ) → row_at no_rows a ≡ no_set
row-none a =
    either (split (ltb a width))
    (λ t.
    let l : a < width = ltb-true a width (T→true _ t) in
    sym (row-in_lem no_rows a l)
    ∙ (λ i. record { low = get_or-replicate row_words a 0 0 (omega arith) i; high = get_or-replicate row_words (width + a) 0 0 (omega arith) i }))
    (λ f. sym (row_out no_rows a (ltb-false a width (F→false _ f))))

-- the row that was put is there
pub row-put-same : (rows : List ℕ) (a : ℕ) (s : Set) → a < width → length rows ≡ row_words → row_at (with_row rows a s) a ≡ s
row-put-same rows a s l n =
    let one : List ℕ = set rows a s.low in
    let long : length one ≡ row_words = length-set rows a s.low ∙ n in
    ap (λ (q : List ℕ). row_at q a) (sym (put_in rows a s l))
    ∙ sym (row-in_lem (set one (width + a) s.high) a l)
    ∙ (λ i.
    record {
      low = (get_or-set_other one (width + a) a s.high 0 (λ e. omega arith) ∙ get_or-set_same rows a s.low 0 (omega arith)) i;
      high = get_or-set_same one (width + a) s.high 0 (omega arith) i;
    })

-- the others stay
pub row-put-other : (rows : List ℕ) (k : ℕ) (s : Set) (a : ℕ) → (a ≡ k → ⊥) → row_at (with_row rows k s) a ≡ row_at rows a
row-put-other rows k s a n =
    either (split (ltb k width)) (λ h. inside (ltb-true k width (T→true _ h)))
    (λ h. ap (λ (q : List ℕ). row_at q a) (sym (put-out rows k s (ltb-false k width (F→false _ h)))))
  where
    stays : (i : ℕ) → (i ≡ k → ⊥) → (i ≡ width + k → ⊥) → get_or (set (set rows k s.low) (width + k) s.high) i 0 ≡ get_or rows i 0
    stays i l h = get_or-set_other (set rows k s.low) (width + k) i s.high 0 h ∙ get_or-set_other rows k i s.low 0 l

    inside : k < width → row_at (with_row rows k s) a ≡ row_at rows a
    inside h =
        either (split (ltb a width))
        (λ t.
        let l : a < width = ltb-true a width (T→true _ t) in
        let low = stays a n (λ e. omega arith) in
        let high = stays (width + a) (λ e. omega arith) (λ e. n (omega arith)) in
        ap (λ (q : List ℕ). row_at q a) (sym (put_in rows k s h))
        ∙ sym (row-in_lem (set (set rows k s.low) (width + k) s.high) a l)
        ∙ (λ i. record { low = low i; high = high i })
        ∙ row-in_lem rows a l)
        (λ t. let g = ltb-false a width (F→false _ t) in sym (row_out (with_row rows k s) a g) ∙ row_out rows a g)

-- lists of rows are equal where their rows are
pub rows_ext : (x y : List ℕ) → length x ≡ row_words → length y ≡ row_words → ((a : ℕ) → a < width → row_at x a ≡ row_at y a) → x ≡ y
rows_ext x y hx hy e = ext_get_or 0 x y (hx ∙ sym hy) (λ i h. at i (omega arith))
  where
    row : (a : ℕ) → a < width → ◌≡◌ {A = Set} (record { low = get_or x a 0; high = get_or x (width + a) 0 }) (record { low = get_or y a 0; high = get_or y (width + a) 0 })
    row a l = row-in_lem x a l ∙ e a l ∙ sym (row-in_lem y a l)

    at : (i : ℕ) → i < row_words → get_or x i 0 ≡ get_or y i 0
    at i l =
        either (split (ltb i width)) (λ t. ap (λ (s : Set). s.low) (row i (ltb-true i width (T→true _ t))))
        (λ t.
        let g = ltb-false i width (F→false _ t) in
        let same : width + (i - width) ≡ i = omega arith in
        subst (λ (j : ℕ). get_or x j 0 ≡ get_or y j 0) same (ap (λ (s : Set). s.high) (row (i - width) (omega arith))))

-- ---- rows that are put down from a relation

pub length-list_from : (n i : ℕ) (f : ℕ → ℕ) → length (list_from n i f) ≡ n
unfolding list_from
length-list_from zero i f = refl
length-list_from (suc n) i f = ap suc (length-list_from n (suc i) f)

pub get_or-list_from : (n i : ℕ) (f : ℕ → ℕ) (k : ℕ) → k < n → get_or (list_from n i f) k 0 ≡ f (i + k)
unfolding list_from
get_or-list_from zero i f k h = absurd (not-suc-le-zero h)
get_or-list_from (suc n) i f zero h = ap f (sym (add-zero i))
get_or-list_from (suc n) i f (suc k) h = get_or-list_from n (suc i) f k (le_of_suc-le-suc h) ∙ ap f (suc-add i k ∙ sym (add-suc i k))

pub length-rows_of : (r : Relation) → length (rows_of r) ≡ row_words
unfolding rows_of
length-rows_of r =
    length-append (list_from width 0 (λ a. (those (r a)).low)) (list_from width 0 (λ a. (those (r a)).high))
    ∙ ap₂ (λ (m n : ℕ). m + n) (length-list_from width 0 (λ a. (those (r a)).low)) (length-list_from width 0 (λ a. (those (r a)).high))

-- a relation put down row by row is the relation
pub row-rows_of : (r : Relation) (a : ℕ) → a < width → row_at (rows_of r) a ≡ those (r a)
unfolding rows_of
row-rows_of r a h =
    let lows : List ℕ = list_from width 0 (λ b. (those (r b)).low) in
    let highs : List ℕ = list_from width 0 (λ b. (those (r b)).high) in
    let long : length lows ≡ width = length-list_from width 0 (λ b. (those (r b)).low) in
    let low : get_or (lows ++ highs) a 0 ≡ (those (r (0 + a))).low =
    get_or-append lows highs 0 a (omega arith) ∙ get_or-list_from width 0 (λ b. (those (r b)).low) a h in
    let high : get_or (lows ++ highs) (width + a) 0 ≡ (those (r (0 + a))).high =
    ap (λ (n : ℕ). get_or (lows ++ highs) (n + a) 0) (sym long) ∙ get_or-append-add lows highs a 0 ∙ get_or-list_from width 0 (λ b. (those (r b)).high) a h in
    sym (row-in_lem (rows_of r) a h) ∙ (λ i. record { low = low i; high = high i }) ∙ ap (λ (x : ℕ). those (r x)) (zero-add a)

pub row-mem : (r : Relation) (a b : ℕ) → a < width → b < width → mem (row_at (rows_of r) a) b ≡ r a b
row-mem r a b ha hb = ap (λ (s : Set). mem s b) (row-rows_of r a ha) ∙ mem-those (r a) b hb

pub in-rows_of : (r : Relation) (a b : ℕ) → a < width → b < width → in_row (rows_of r) a b ≡ r a b
unfolding in_row
in-rows_of r a b ha hb = row-mem r a b ha hb

-- rows of the right length whose rows are those of a relation are its rows
pub is-rows_of : (rows : List ℕ) (r : Relation) → length rows ≡ row_words → ((a : ℕ) → a < width → row_at rows a ≡ those (r a)) → rows ≡ rows_of r
is-rows_of rows r n e = rows_ext rows (rows_of r) n (length-rows_of r) (λ a l. e a l ∙ sym (row-rows_of r a l))

pub rows_of-ext : (r q : Relation) → ((a b : ℕ) → a < width → b < width → r a b ≡ q a b) → rows_of r ≡ rows_of q
rows_of-ext r q e = is-rows_of (rows_of r) q (length-rows_of r) (λ a l. row-rows_of r a l ∙ those-ext (r a) (q a) (λ b k. e a b l k))

-- rows without a member are those of the relation without a pair
pub empty-rows_of : (r : Relation) → ((a b : ℕ) → a < width → b < width → r a b ≡ false) → no_rows ≡ rows_of r
unfolding rows_of list_from those bits_of
empty-rows_of r e = sym (rows_of-ext r (λ a b. false) e)

-- a row that is put into a relation's rows: the others stay
pub put-rows_of : (r : Relation) (k : ℕ) (p : ℕ → Bool) → with_row (rows_of r) k (those p) ≡ rows_of (λ a b. when eqb a k then p b else r a b)
put-rows_of r k p =
    is-rows_of (with_row (rows_of r) k (those p)) q (length-put (rows_of r) k (those p) ∙ length-rows_of r) (λ a l. at a l (eqb a k) refl)
  where
    q : Relation
    q a b = when eqb a k then p b else r a b

    at : (a : ℕ) → a < width → (t : Bool) → eqb a k ≡ t → row_at (with_row (rows_of r) k (those p)) a ≡ those (q a)
    at a l true e =
        let same : k ≡ a = sym (eqb-true a k e) in
        ap (λ (n : ℕ). row_at (with_row (rows_of r) n (those p)) a) same
        ∙ row-put-same (rows_of r) a (those p) l (length-rows_of r)
        ∙ those-ext p (q a) (λ b hb. sym (ap (λ (t : Bool). when t then p b else r a b) e))
    at a l false e =
        row-put-other (rows_of r) k (those p) a (eqb-false a k e)
        ∙ row-rows_of r a l
        ∙ those-ext (r a) (q a) (λ b hb. sym (ap (λ (t : Bool). when t then p b else r a b) e))

-- a row of a relation's rows that gains those that pass: what a pass over a log does at each event
pub gain-rows_of : (r : Relation) (k : ℕ) (p : ℕ → Bool)
    → with_row (rows_of r) k (those (λ b. mem (row_at (rows_of r) k) b or p b)) ≡ rows_of (λ a b. r a b or eqb a k and p b)
gain-rows_of r k p =
    put-rows_of r k (λ b. mem (row_at (rows_of r) k) b or p b)
    ∙ rows_of-ext (λ a b. when eqb a k then (mem (row_at (rows_of r) k) b or p b) else r a b) (λ a b. r a b or eqb a k and p b)
    (λ a b ha hb. pick a b ha hb (eqb a k) refl)
  where
    pick : (a b : ℕ) → a < width → b < width → (t : Bool) → eqb a k ≡ t
        → (when eqb a k then (mem (row_at (rows_of r) k) b or p b) else r a b) ≡ (r a b or eqb a k and p b)
    pick a b ha hb true e =
        let same : a ≡ k = eqb-true a k e in
        ap (λ (t : Bool). when t then (mem (row_at (rows_of r) k) b or p b) else r a b) e
        ∙ ap (λ (t : Bool). t or p b) (ap (λ (n : ℕ). mem (row_at (rows_of r) n) b) (sym same) ∙ row-mem r a b ha hb)
        ∙ ap (λ (t : Bool). r a b or t) (sym (true-and (p b)) ∙ ap (λ (t : Bool). t and p b) (sym e))
    pick a b ha hb false e =
        ap (λ (t : Bool). when t then (mem (row_at (rows_of r) k) b or p b) else r a b) e
        ∙ sym (or-false (r a b))
        ∙ ap (λ (t : Bool). r a b or t) (sym (false-and (p b)) ∙ ap (λ (t : Bool). t and p b) (sym e))

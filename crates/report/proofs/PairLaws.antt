-- The members of a set one by one, the pairs of a relation row by row, and how many there are. Assumes nothing.
use mathlib.Core.Path.{◌≡◌, refl, sym, ap, ap₂, subst, ◌∙◌}
use mathlib.Core.Bool.{Bool, true, false}
use mathlib.Core.List.{List, [], ◌∷◌, ◌++◌}
use Prim.Native.Nat.{ℕ, zero, suc, ◌+◌, ◌-◌, ◌*◌, ◌≤◌, ◌<◌, suc-le-suc}
use native.Mathlib.Nat.{add-zero, zero-add, add-suc, suc-add, zero-lt-suc}
use native.Mathlib.Numerals.{add-one}
use native.Mathlib.Omega.{arith}
use borrow.Author.Tests.{eq-eqb, ne_eqb, eqb-false, ltb-true, ltb-false}
use lib.Dec.{T, eqb, ltb, eqb→eq}
use lib.ListN.{length, length-append, length-map}
use Rattle.sets.specs.Tests.{◌and◌, non, when◌then◌else◌}
use Rattle.sets.specs.Members.{width, digit, mem, those, is_empty, count_below, least_below, some_below}
use Rattle.sets.specs.Rows.{Relation, row_at, in_row}
use Rattle.sets.specs.declared.set.Set.{Set}
use Rattle.sets.proofs.Tests.{non-false, false→F, true→T, T→true, F→false, split, either}
use Rattle.sets.proofs.Below.{least-is, least-before, least_lt}
use Rattle.sets.proofs.Members.{mem-those, empty-none, empty-e}
use Rattle.report.specs.Pairs.{Pair, passing, with_each, pairs_from, pair_count}

-- ---- those of some numbers that pass

kept : (x y : Bool) → y ≡ false → x ≡ (x and non y)
unfolding ◌and◌ non
kept true y e = ap non (sym e)
kept false y e = refl

gone : (x y : Bool) → y ≡ true → (x and non y) ≡ false
unfolding ◌and◌ non
gone true y e = ap non e
gone false y e = refl

fails : (x y : Bool) → x ≡ false → (x and y) ≡ false
unfolding ◌and◌
fails x y e = ap (λ (t : Bool). t and y) e

pub passing-ext : (p q : ℕ → Bool) (n a : ℕ) → ((b : ℕ) → a ≤ b → b < a + n → p b ≡ q b) → passing p n a ≡ passing q n a
unfolding passing
passing-ext p q zero a e = refl
passing-ext p q (suc n) a e =
    let rest = passing-ext p q n (suc a) (λ b l h. e b (omega arith) (omega (arith, add-suc a n, suc-add a n))) in
    λ i. when e a (omega arith) (omega (arith, add-suc a n)) i then a ∷ rest i else rest i

pub passing-none : (p : ℕ → Bool) (n a : ℕ) → ((b : ℕ) → a ≤ b → b < a + n → p b ≡ false) → passing p n a ≡ []
unfolding passing
passing-none p zero a e = refl
passing-none p (suc n) a e =
    let rest = passing-none p n (suc a) (λ b l h. e b (omega arith) (omega (arith, add-suc a n, suc-add a n))) in
    λ i. when e a (omega arith) (omega (arith, add-suc a n)) i then a ∷ rest i else rest i

-- the first that passes, and those that pass without it
pub passing-first : (p : ℕ → Bool) (n a m : ℕ) → a ≤ m → m < a + n → p m ≡ true → ((b : ℕ) → a ≤ b → b < m → p b ≡ false)
    → passing p n a ≡ m ∷ passing (λ b. p b and non (eqb b m)) n a
unfolding passing
passing-first p zero a m l h t f = absurd (omega arith)
passing-first p (suc n) a m l h t f = by
    (λ k. passing-first p n (suc a) m k (omega (arith, add-suc a n, suc-add a n)) t (λ b i j. f b (omega arith) j)) (p a) refl
  where
    q : ℕ → Bool
    q b = p b and non (eqb b m)

    by : (suc a ≤ m → passing p n (suc a) ≡ m ∷ passing q n (suc a)) → (x : Bool) → p a ≡ x
        → (when p a then a ∷ passing p n (suc a) else passing p n (suc a))
        ≡ m ∷ (when q a then a ∷ passing q n (suc a) else passing q n (suc a))
    by ih true e =
        let same : a ≡ m = either (split (ltb a m)) (λ lt. absurd (false→F (f a (omega arith) (ltb-true a m (T→true _ lt))) (true→T e)))
        (λ ge. let g = ltb-false a m (F→false _ ge) in omega arith) in
        let later = passing-ext p q n (suc a) (λ b i j. kept (p b) (eqb b m) (ne_eqb b m (λ x. omega arith))) in
        (λ i. when e i then a ∷ passing p n (suc a) else passing p n (suc a))
        ∙ ap₂ ◌∷◌ same later
        ∙ sym (λ i. m ∷ (when gone (p a) (eqb a m) (eq-eqb a m same) i then a ∷ passing q n (suc a) else passing q n (suc a)))
    by ih false e =
        let past : suc a ≤ m = either (split (eqb a m)) (λ eq. absurd (false→F (ap p (sym (eqb→eq a m eq))
        ∙ e) (true→T t))) (λ ne. let g = eqb-false a m (F→false _ ne) in omega arith) in
        (λ i. when e i then a ∷ passing p n (suc a) else passing p n (suc a))
        ∙ ih past
        ∙ sym (λ i. m ∷ (when fails (p a) (non (eqb a m)) e i then a ∷ passing q n (suc a) else passing q n (suc a)))

pub length-passing : (p q : ℕ → Bool) (n a : ℕ) → ((b : ℕ) → b < n → q b ≡ p (a + b)) → length (passing p n a) ≡ count_below n q
unfolding passing count_below
length-passing p q zero a e = refl
length-passing p q (suc n) a e = by (p a) (q 0) (e 0 (zero-lt-suc n)
    ∙ ap p (add-zero a)) (length-passing p (λ b. q (suc b)) n (suc a) (λ b l. e (suc b) (suc-le-suc l) ∙ ap p (add-suc a b
    ∙ sym (suc-add a b))))
  where
    by : (x y : Bool) → y ≡ x → length (passing p n (suc a)) ≡ count_below n (λ b. q (suc b))
        → length (when x then a ∷ passing p n (suc a) else passing p n (suc a)) ≡ digit y + count_below n (λ b. q (suc b))
    by x y e h = subst (λ (z : Bool). length (when x then a ∷ passing p n (suc a) else passing p n (suc a))
        ≡ digit z + count_below n (λ b. q (suc b))) (sym e) (on x)
      where
        on : (x : Bool) → length (when x then a ∷ passing p n (suc a) else passing p n (suc a)) ≡ digit x + count_below n (λ b. q (suc b))
        on true = omega arith
        on false = omega arith

pub passing-most : (p : ℕ → Bool) (n a : ℕ) → length (passing p n a) ≤ n
unfolding passing
passing-most p zero a = omega arith
passing-most p (suc n) a = by (p a) (passing-most p n (suc a))
  where
    by : (x : Bool) → length (passing p n (suc a)) ≤ n → length (when x then a ∷ passing p n (suc a) else passing p n (suc a)) ≤ suc n
    by true h = suc-le-suc h
    by false h = omega arith

-- ---- a set's members, the least first

module _ (s : Set) where
  member-first : is_empty s ≡ false
      → passing (mem s) width 0 ≡ least_below width (mem s) ∷ passing (λ b. mem s b and non (eqb b (least_below width (mem s)))) width 0
  member-first h =
      let some : T (some_below width (mem s)) = non-false _ (sym (empty-none s) ∙ h) in
      let low : least_below width (mem s) < width = least_lt width (mem s) some in
      passing-first (mem s) width 0 (least_below width (mem s)) (omega arith) (omega arith) (T→true _ (least-is width (mem s) low))
      (λ b l k. least-before width (mem s) b k)

  pub members-none : is_empty s ≡ true → passing (mem s) width 0 ≡ []
  members-none h = passing-none (mem s) width 0 (λ b l k. F→false _ (λ t. empty-e s (true→T h) b (omega arith) t))

  pub members-turn : (rest : Set) → is_empty s ≡ false → rest ≡ those (λ b. mem s b and non (eqb b (least_below width (mem s))))
      → passing (mem s) width 0 ≡ least_below width (mem s) ∷ passing (mem rest) width 0
  members-turn rest h e =
      let q : ℕ → Bool = λ b. mem s b and non (eqb b (least_below width (mem s))) in
      member-first h
      ∙ ap (λ (l : List ℕ). least_below width (mem s) ∷ l) (passing-ext q (mem rest) width 0 (λ b l k. sym (ap (λ (u : Set). mem u b) e
      ∙ mem-those q b (omega arith))))

-- ---- the pairs of a relation

pub pairs-ext : (r q : Relation) (n s : ℕ) → s + n ≤ width → ((a b : ℕ) → a < width → b < width → r a b ≡ q a b)
    → pairs_from r n s ≡ pairs_from q n s
unfolding pairs_from
pairs-ext r q zero s l e = refl
pairs-ext r q (suc n) s l e =
    ap₂ ◌++◌ (ap (with_each s) (passing-ext (r s) (q s) width 0 (λ b i j. e s b (omega (arith, add-suc s n)) (omega arith))))
    (pairs-ext r q n (suc s) (omega (arith, add-suc s n, suc-add s n)) e)

-- no relation has more than 64 times 64 pairs
pub pairs-most : (r : Relation) (n s : ℕ) → length (pairs_from r n s) ≤ width * n
unfolding pairs_from
pairs-most r zero s = omega arith
pairs-most r (suc n) s =
    let here = length-map {B = Pair} (passing (r s) width 0) (λ (t : ℕ). record { source = s; target = t }) in
    omega (
      arith,
      passing-most (r s) width 0,
      pairs-most r n (suc s),
      length-append (with_each s (passing (r s) width 0))
          (pairs_from r n (suc s)),
    )

module _ (rows : List ℕ) (a : ℕ) (l : a < width) where
  -- a relation in rows, one row further
  pub pairs-row : (s : Set) → s ≡ row_at rows a
      → pairs_from (in_row rows) (width - a) a ≡ with_each a (passing (mem s) width 0) ++ pairs_from (in_row rows) (width - (a + 1)) (a + 1)
  unfolding pairs_from in_row
  pairs-row s e =
      let one : width - a ≡ suc (width - (a + 1)) = omega arith in
      ap (λ (n : ℕ). pairs_from (in_row rows) n a) one
      ∙ ap (λ (b : ℕ). with_each a (passing (in_row rows a) width 0) ++ pairs_from (in_row rows) (width - (a + 1)) b) (sym (add-one a))
      ∙ ap (λ (u : Set). with_each a (passing (mem u) width 0) ++ pairs_from (in_row rows) (width - (a + 1)) (a + 1)) (sym e)

  pub count-row : (s : Set) (k n whole : ℕ) → s ≡ row_at rows a → k ≡ count_below width (mem s)
      → n + length (pairs_from (in_row rows) (width - a) a) ≡ whole
      → n + k + length (pairs_from (in_row rows) (width - (a + 1)) (a + 1)) ≡ whole
  count-row s k n whole e f h =
      let step = ap length (pairs-row s e)
      ∙ length-append (with_each a (passing (mem s) width 0)) (pairs_from (in_row rows) (width - (a + 1)) (a + 1)) in
      let here = length-map {B = Pair} (passing (mem s) width 0) (λ (t : ℕ). record { source = a; target = t })
      ∙ length-passing (mem s) (mem s) width 0 (λ b i. ap (mem s) (sym (zero-add b))) in
      omega arith

  pub count_most : (s : Set) (k n : ℕ) → s ≡ row_at rows a → k ≡ count_below width (mem s)
      → n + length (pairs_from (in_row rows) (width - a) a) ≡ pair_count (in_row rows) → n + k ≤ width * width
  count_most s k n e f h = let all = count-row s k n _ e f h in omega (arith, pairs-most (in_row rows) width 0)

pub pairs_end : (rows : List ℕ) (a : ℕ) → width ≤ a → pairs_from (in_row rows) (width - a) a ≡ []
unfolding pairs_from
pairs_end rows a l = let none : width - a ≡ 0 = omega arith in ap (λ (n : ℕ). pairs_from (in_row rows) n a) none

pub count-start : (rows : List ℕ) → 0 + length (pairs_from (in_row rows) (width - 0) 0) ≡ pair_count (in_row rows)
count-start rows = zero-add (pair_count (in_row rows))

pub count-end : (rows : List ℕ) (a n whole : ℕ) → width ≤ a → n + length (pairs_from (in_row rows) (width - a) a) ≡ whole → n ≡ whole
count-end rows a n whole l h = let e = ap length (pairs_end rows a l) in omega arith

pub ruleset counting = (count-start, count-row, count_most, count-end)

-- Tables, one after another: what stands in a row of one of them, and what a put leaves. Assumes nothing.
use mathlib.Core.Path.{◌≡◌, refl, sym, ap, ◌∙◌, subst}
use mathlib.Core.Bool.{Bool, true, false}
use mathlib.Core.List.{List, [], ◌∷◌, ◌++◌}
use Prim.Native.Nat.{ℕ, zero, suc, ◌+◌, ◌*◌, ◌-◌, ◌^◌, ◌≤◌, ◌<◌}
use native.Mathlib.Nat.{not-suc-le-zero, le_of_suc-le-suc, add-zero, add-suc, add_assoc}
use native.Mathlib.Numerals.{add-one}
use native.Mathlib.Omega.{arith}
use borrow.Author.Tests.{lt-ltb, le-ltb, ltb-true, ltb-false, eqb-true, eqb-false, ne_eqb}
use lib.Arith.{lt_of_le-ne}
use lib.Dec.{eqb, ltb, eqb_refl, eqb→eq, lt→ltb, ltb→lt}
use lib.ListN.{length, get_or, set, take, drop, length-set, length-append, length-drop, length-replicate, get_or-replicate, take-append-drop}
use lib.Seq.{ext_get_or, length-take-le, drop-set-add, drop-set-lt, take-set-le, take-set-lt, drop-drop, drop_at, take_at, get_or-take}
use lib.ListN.{get_or-eq_default}
use lib.Seq.{get_or-drop, set_out, set_comm, set-get_or, take_all}
use Rattle.sets.specs.Tests.{◌and◌, ◌or◌, when◌then◌else◌}
use Rattle.sets.specs.Members.{width, word, mem, those, no_set}
use Rattle.sets.specs.Rows.{Relation, row_words, no_rows, row_at, with_row, in_row, rows_of}
use Rattle.sets.specs.Tables.{no_tables, table_at, with_row_in, gained_in, with_rows_in, with_table, tables_of}
use Rattle.sets.specs.declared.set.Set.{Set}
use Rattle.sets.proofs.Tests.{T→true, F→false, T-ext, eqb_of, split, either, or-false, true-and, false-and}
use Rattle.sets.proofs.Members.{Whole, those-mem}
use Rattle.sets.proofs.RowLaws.{row-in_lem, row_out, put_in, put-out, length-rows_of, row-rows_of, rows_of-ext, empty-rows_of, put-rows_of}
use Rattle.sets.proofs.RowLaws.{gain-rows_of, in-rows_of, row-put-same, row-put-other}

-- ---- a word past the end is 0, and is put nowhere

module _ (tables : List ℕ) (i : ℕ) (h : length tables ≤ i) where
  pub word-past : 0 ≡ get_or tables i 0
  word-past = sym (get_or-eq_default tables 0 h)

  pub word-put-past : (x : ℕ) → tables ≡ set tables i x
  word-put-past x = sym (set_out tables i x h)

-- ---- what the code reads and writes: the places k * row_words + a and width further, where there are such

module _ (tables : List ℕ) (k a : ℕ) where
  read_at : (i : ℕ) → i < row_words → get_or (table_at tables k) i 0 ≡ get_or tables (k * row_words + i) 0
  unfolding table_at
  read_at i l = get_or-take row_words (drop (k * row_words) tables) i 0 l ∙ get_or-drop (k * row_words) tables i 0

  pub table-row : a < width → ◌≡◌ {A = Set} (record { low = get_or tables (k * row_words + a) 0; high = get_or tables (k * row_words + a + width) 0 }) (row_at (table_at tables k) a)
  table-row l =
      let further : k * row_words + a + width ≡ k * row_words + (width + a) = omega arith in
      let high = ap (λ (n : ℕ). get_or tables n 0) further ∙ sym (read_at (width + a) (omega arith)) in
      (λ i. record { low = sym (read_at a (omega arith)) i; high = high i }) ∙ row-in_lem (table_at tables k) a l

  pub table-row-is : (x y : ℕ) → a < width → x ≡ get_or tables (k * row_words + a) 0 → y ≡ get_or tables (k * row_words + a + width) 0
      → ◌≡◌ {A = Set} (record { low = x; high = y }) (row_at (table_at tables k) a)
  table-row-is x y l ex ey = (λ i. record { low = ex i; high = ey i }) ∙ table-row l

  pub table-row-above : width ≤ a → no_set ≡ row_at (table_at tables k) a
  table-row-above l = row_out (table_at tables k) a l

  -- tables of the code's numbers hold whole sets
  pub table-whole : ((i : ℕ) → get_or tables i 0 < 2 ^ word) → Whole (row_at (table_at tables k) a)
  table-whole small =
      either (split (ltb a width))
      (λ t. subst Whole (table-row (ltb-true a width (T→true _ t)))
      (those-mem (record { low = get_or tables (k * row_words + a) 0; high = get_or tables (k * row_words + a + width) 0 })
      (small (k * row_words + a), small (k * row_words + a + width))))
      (λ f. subst Whole (table-row-above (ltb-false a width (F→false _ f))) (those-mem no_set (omega arith, omega arith)))

  module _ (s : Set) where
    pub table-put : a < width → set (set tables (k * row_words + a) s.low) (k * row_words + a + width) s.high ≡ with_row_in tables k a s
    unfolding with_row_in
    table-put l = rw (lt-ltb a width l)

    pub table-put-is : (one out : List ℕ) → a < width → one ≡ set tables (k * row_words + a) s.low → out ≡ set one (k * row_words + a + width) s.high
        → out ≡ with_row_in tables k a s
    table-put-is one out l e h = h ∙ ap (λ (q : List ℕ). set q (k * row_words + a + width) s.high) e ∙ table-put l

    pub table-put-above : width ≤ a → tables ≡ with_row_in tables k a s
    unfolding with_row_in
    table-put-above l = rw (le-ltb a width l)

    pub length-put-in : length (with_row_in tables k a s) ≡ length tables
    unfolding with_row_in
    length-put-in = by (ltb a width)
      where
        by : (t : Bool) → length (when t then set (set tables (k * row_words + a) s.low) (k * row_words + a + width) s.high else tables) ≡ length tables
        by true = length-set (set tables (k * row_words + a) s.low) (k * row_words + a + width) s.high ∙ length-set tables (k * row_words + a) s.low
        by false = refl

-- one word of a table is put: in its own table it is put, the others stay
module _ (k i x : ℕ) (l : i < row_words) where
  word_same : (tables : List ℕ) → table_at (set tables (k * row_words + i) x) k ≡ set (table_at tables k) i x
  unfolding table_at
  word_same tables = ap (take row_words) (drop-set-add (k * row_words) tables i x) ∙ take-set-lt row_words (drop (k * row_words) tables) i x l

  word-other : (tables : List ℕ) (j : ℕ) → (j ≡ k → ⊥) → table_at (set tables (k * row_words + i) x) j ≡ table_at tables j
  unfolding table_at
  word-other tables j n =
      either (split (ltb j k))
      (λ b. before (ltb-true j k (T→true _ b)))
      (λ b. let h = ltb-false j k (F→false _ b) in ap (take row_words) (drop-set-lt (j * row_words) tables (k * row_words + i) x (omega arith)))
    where
      before : j < k → table_at (set tables (k * row_words + i) x) j ≡ table_at tables j
      before h =
          let d : ℕ = (k * row_words + i) - j * row_words in
          let e : k * row_words + i ≡ j * row_words + d = omega arith in
          ap (λ (m : ℕ). take row_words (drop (j * row_words) (set tables m x))) e
          ∙ ap (take row_words) (drop-set-add (j * row_words) tables d x)
          ∙ take-set-le row_words (drop (j * row_words) tables) d x (omega arith)

module _ (tables : List ℕ) (k a : ℕ) (s : Set) where
  -- both words, the second counted from the table's start
  both : a < width → set (set tables (k * row_words + a) s.low) (k * row_words + (width + a)) s.high ≡ with_row_in tables k a s
  both l =
      let further : k * row_words + (width + a) ≡ k * row_words + a + width = omega arith in
      ap (λ (n : ℕ). set (set tables (k * row_words + a) s.low) n s.high) further ∙ table-put tables k a s l

  -- the table that is put to
  pub table-put-same : table_at (with_row_in tables k a s) k ≡ with_row (table_at tables k) a s
  table-put-same =
      either (split (ltb a width))
      (λ t.
      let l : a < width = ltb-true a width (T→true _ t) in
      ap (λ (q : List ℕ). table_at q k) (sym (both l))
      ∙ word_same k (width + a) s.high (omega arith) (set tables (k * row_words + a) s.low)
      ∙ ap (λ (q : List ℕ). set q (width + a) s.high) (word_same k a s.low (omega arith) tables)
      ∙ put_in (table_at tables k) a s l)
      (λ f.
      let g = ltb-false a width (F→false _ f) in
      ap (λ (q : List ℕ). table_at q k) (sym (table-put-above tables k a s g)) ∙ put-out (table_at tables k) a s g)

  -- the others stay
  pub table-put-other : (j : ℕ) → (j ≡ k → ⊥) → table_at (with_row_in tables k a s) j ≡ table_at tables j
  table-put-other j n =
      either (split (ltb a width))
      (λ t.
      let l : a < width = ltb-true a width (T→true _ t) in
      ap (λ (q : List ℕ). table_at q j) (sym (both l))
      ∙ word-other k (width + a) s.high (omega arith) (set tables (k * row_words + a) s.low) j n
      ∙ word-other k a s.low (omega arith) tables j n)
      (λ f. ap (λ (q : List ℕ). table_at q j) (sym (table-put-above tables k a s (ltb-false a width (F→false _ f)))))

-- a row that is put where it stands changes nothing
pub put_back : (tables : List ℕ) (k e : ℕ) → with_row_in tables k e (row_at (table_at tables k) e) ≡ tables
put_back tables k e =
    either (split (ltb e width))
    (λ t.
    let l = ltb-true e width (T→true _ t) in
    ap (with_row_in tables k e) (sym (table-row tables k e l))
    ∙ sym (table-put tables k e (record { low = get_or tables (k * row_words + e) 0; high = get_or tables (k * row_words + e + width) 0 }) l)
    ∙ ap (λ (t : List ℕ). set t (k * row_words + e + width) (get_or tables (k * row_words + e + width) 0)) (set-get_or tables (k * row_words + e) 0)
    ∙ set-get_or tables (k * row_words + e + width) 0)
    (λ f. sym (table-put-above tables k e _ (ltb-false e width (F→false _ f))))

-- puts into different tables, in either order
pub put-comm : (tables : List ℕ) (j k a b : ℕ) (s t : Set) → (j ≡ k → ⊥) → with_row_in (with_row_in tables j a s) k b t
    ≡ with_row_in (with_row_in tables k b t) j a s
put-comm tables j k a b s t ne =
    either (split (ltb a width))
    (λ x. either (split (ltb b width)) (λ y. both (ltb-true a width (T→true _ x)) (ltb-true b width (T→true _ y)))
    (λ y. let g = ltb-false b width (F→false _ y) in sym (table-put-above (with_row_in tables j a s) k b t g)
    ∙ ap (λ (l : List ℕ). with_row_in l j a s) (table-put-above tables k b t g)))
    (λ x. let g = ltb-false a width (F→false _ x) in ap (λ (l : List ℕ). with_row_in l k b t) (sym (table-put-above tables j a s g))
    ∙ table-put-above (with_row_in tables k b t) j a s g)
  where
    -- one word, put before a row of another table or after it
    one_word : (l : List ℕ) (i x : ℕ) → a < width → (j * row_words + a ≡ i → ⊥) → (j * row_words + a + width ≡ i → ⊥)
        → set (with_row_in l j a s) i x ≡ with_row_in (set l i x) j a s
    one_word l i x la low high =
        ap (λ (q : List ℕ). set q i x) (sym (table-put l j a s la))
        ∙ set_comm (set l (j * row_words + a) s.low) (j * row_words + a + width) i s.high x high
        ∙ ap (λ (q : List ℕ). set q (j * row_words + a + width) s.high) (set_comm l (j * row_words + a) i s.low x low)
        ∙ table-put (set l i x) j a s la

    both : a < width → b < width → with_row_in (with_row_in tables j a s) k b t ≡ with_row_in (with_row_in tables k b t) j a s
    both la lb =
        sym (table-put (with_row_in tables j a s) k b t lb)
        ∙ ap (λ (l : List ℕ). set l (k * row_words + b + width) t.high)
        (one_word tables (k * row_words + b) t.low la (λ q. ne (omega (arith, la, lb, q))) (λ q. ne (omega (arith, la, lb, q))))
        ∙ one_word (set tables (k * row_words + b) t.low) (k * row_words + b + width) t.high la (λ q. ne (omega (arith, la, lb, q)))
        (λ q. ne (omega (arith, la, lb, q)))
        ∙ ap (λ (l : List ℕ). with_row_in l j a s) (table-put tables k b t lb)

pub ruleset placing = (word-past, word-put-past, table-row-is, table-row-above, table-put-is, table-put-above)

pub length-rows-in : (tables : List ℕ) (k : ℕ) (rows : List ℕ) (i : ℕ) → length (with_rows_in tables k rows i) ≡ length tables
unfolding with_rows_in
length-rows-in tables k rows zero = refl
length-rows-in tables k rows (suc i) = length-put-in (with_rows_in tables k rows i) k i (row_at rows i) ∙ length-rows-in tables k rows i

-- ---- a table is put word by word: the low words of all rows, then the high ones

-- n words, put one after another from a place on
unfoldable pub with_words : List ℕ → ℕ → (ℕ → ℕ) → ℕ → List ℕ
with_words tables at f zero = tables
with_words tables at f (suc n) = set (with_words tables at f n) (at + n) (f n)

module _ (at : ℕ) (f : ℕ → ℕ) where
  -- a word before them may as well be put first
  words-past : (tables : List ℕ) (n i x : ℕ) → i < at → set (with_words tables at f n) i x ≡ with_words (set tables i x) at f n
  unfolding with_words
  words-past tables zero i x h = refl
  words-past tables (suc n) i x h =
      set_comm (with_words tables at f n) (at + n) i (f n) x (λ e. omega arith) ∙ ap (λ (q : List ℕ). set q (at + n) (f n)) (words-past tables n i x h)

  words_more : (tables : List ℕ) (m n : ℕ) → with_words (with_words tables at f m) (at + m) (λ i. f (m + i)) n ≡ with_words tables at f (m + n)
  unfolding with_words
  words_more tables m zero = ap (with_words tables at f) (sym (add-zero m))
  words_more tables m (suc n) =
      (λ i. set (words_more tables m n i) (add_assoc at m n i) (f (m + n))) ∙ ap (with_words tables at f) (sym (add-suc m n))

  length-words : (tables : List ℕ) (n : ℕ) → length (with_words tables at f n) ≡ length tables
  unfolding with_words
  length-words tables zero = refl
  length-words tables (suc n) = length-set (with_words tables at f n) (at + n) (f n) ∙ length-words tables n

-- the tables with the first n of these words in table k
unfoldable pub with_words_in : List ℕ → ℕ → List ℕ → ℕ → List ℕ
with_words_in tables k rows n = with_words tables (k * row_words) (λ i. get_or rows i 0) n

module _ (tables : List ℕ) (k : ℕ) (rows : List ℕ) where
  words-of-rows : (n : ℕ) → n ≤ width
      → with_rows_in tables k rows n ≡ with_words (with_words_in tables k rows n) (k * row_words + width) (λ i. get_or rows (width + i) 0) n
  unfolding with_rows_in with_words with_words_in
  words-of-rows zero l = refl
  words-of-rows (suc n) l =
      let lows : List ℕ = with_words_in tables k rows n in
      let highs : ℕ → ℕ = λ i. get_or rows (width + i) 0 in
      let place : k * row_words + n + width ≡ k * row_words + width + n = omega arith in
      (λ i. with_row_in (words-of-rows n (omega arith) i) k n (sym (row-in_lem rows n l) i))
      ∙ sym (table-put (with_words lows (k * row_words + width) highs n) k n (record { low = get_or rows n 0; high = get_or rows (width + n) 0 }) l)
      ∙ (λ i. set (words-past (k * row_words + width) highs lows n (k * row_words + n) (get_or rows n 0) (omega arith) i) (place i) (highs n))

  pub words-begin : (held : List ℕ) → held ≡ tables → held ≡ with_words_in tables k rows 0
  unfolding with_words with_words_in
  words-begin held h = h

  pub words-next : (i : ℕ) (held out : List ℕ) → held ≡ with_words_in tables k rows i → out ≡ set held (k * row_words + i) (get_or rows i 0)
      → out ≡ with_words_in tables k rows (i + 1)
  unfolding with_words with_words_in
  words-next i held out hh ho =
      ho ∙ ap (λ (q : List ℕ). set q (k * row_words + i) (get_or rows i 0)) hh ∙ ap (with_words_in tables k rows) (sym (add-one i))

  pub words-end : (i : ℕ) (held : List ℕ) → row_words ≤ i → i ≤ row_words → held ≡ with_words_in tables k rows i → held ≡ with_table tables k rows
  unfolding with_words_in
  words-end i held l g h =
      let same : i ≡ width + width = omega arith in
      h
      ∙ ap (with_words_in tables k rows) same
      ∙ sym (words_more (k * row_words) (λ j. get_or rows j 0) tables width width)
      ∙ sym (words-of-rows width (omega arith))

  pub words-length : (i : ℕ) (held : List ℕ) → held ≡ with_words_in tables k rows i → length held ≡ length tables
  unfolding with_words_in
  words-length i held h = ap length h ∙ length-words (k * row_words) (λ j. get_or rows j 0) tables i

-- a table is taken word by word
pub take_next : (tables : List ℕ) (k i x : ℕ) (held : List ℕ) → i < row_words → held ≡ with_words_in no_rows 0 (table_at tables k) i
    → x ≡ get_or tables (k * row_words + i) 0 → set held i x ≡ with_words_in no_rows 0 (table_at tables k) (i + 1)
take_next tables k i x held l hh hx =
    let place : i ≡ 0 * row_words + i = omega arith in
    words-next no_rows 0 (table_at tables k) i held (set held i x) hh (λ j. set held (place j) ((hx ∙ sym (read_at tables k 0 i l)) j))

pub ruleset putting = (words-begin, words-next, words-end, words-length, take_next)

-- ---- a relation's rows are one table

pub table-rows_of : (r : Relation) → table_at (rows_of r) 0 ≡ rows_of r
unfolding table_at
table-rows_of r = take_all row_words (rows_of r) (omega (arith, length-rows_of r))

one_table : (rows : List ℕ) (a : ℕ) (s : Set) → with_row_in rows 0 a s ≡ with_row rows a s
unfolding with_row_in with_row
one_table rows a s =
    let low : 0 * row_words + a ≡ a = omega arith in
    let high : 0 * row_words + a + width ≡ width + a = omega arith in
    λ i. when ltb a width then set (set rows (low i) s.low) (high i) s.high else rows

-- rows by themselves are read and written as table 0
module _ (rows : List ℕ) (long : length rows ≡ row_words) where
  table-alone : table_at rows 0 ≡ rows
  unfolding table_at
  table-alone = take_all row_words rows (omega (arith, long))

  pub row-alone : (a : ℕ) (s : Set) → s ≡ row_at (table_at rows 0) a → s ≡ row_at rows a
  row-alone a s h = h ∙ ap (λ (l : List ℕ). row_at l a) table-alone

  pub join-alone : (a : ℕ) (s : Set) (out : List ℕ) → out ≡ gained_in rows 0 a s → out ≡ with_row rows a (those (λ b. mem (row_at rows a) b or mem s b))
  join-alone a s out h =
      h ∙ ap (λ (l : List ℕ). with_row_in rows 0 a (those (λ b. mem (row_at l a) b or mem s b))) table-alone ∙ one_table rows a _

pub put-alone : (rows : List ℕ) (a : ℕ) (s : Set) (out : List ℕ) → out ≡ with_row_in rows 0 a s → out ≡ with_row rows a s
put-alone rows a s out h = h ∙ one_table rows a s

pub ruleset alone = (row-alone, join-alone, put-alone)

-- rows that were put down row by row are there
rows-there : (rows : List ℕ) (m : ℕ) → m ≤ width → (a : ℕ) → a < m → row_at (with_rows_in no_rows 0 rows m) a ≡ row_at rows a
unfolding with_rows_in
rows-there rows zero l a h = absurd (not-suc-le-zero h)
rows-there rows (suc m) l a h =
    let held = with_rows_in no_rows 0 rows m in
    let long : length held ≡ row_words = length-rows-in no_rows 0 rows m ∙ length-replicate {A = ℕ} row_words 0 in
    ap (λ (x : List ℕ). row_at x a) (one_table held m (row_at rows m))
    ∙ either (split (eqb a m))
    (λ t.
    let same : a ≡ m = eqb→eq a m t in
    ap (row_at (with_row held m (row_at rows m))) same ∙ row-put-same held m (row_at rows m) l long ∙ ap (row_at rows) (sym same))
    (λ f. row-put-other held m (row_at rows m) a (λ q. f (eqb_of q))
    ∙ rows-there rows m (omega arith) a (lt_of_le-ne (le_of_suc-le-suc h) (λ q. f (eqb_of q))))

pub row-taken : (rows : List ℕ) (a : ℕ) → a < width → row_at (with_table no_rows 0 rows) a ≡ row_at rows a
row-taken rows a l = rows-there rows width (omega arith) a l

-- ---- tables are known by their rows

next-table : (x : List ℕ) (k : ℕ) → table_at (drop row_words x) k ≡ table_at x (suc k)
unfolding table_at
next-table x k =
    let same : row_words + k * row_words ≡ suc k * row_words = omega arith in
    ap (take row_words) (drop-drop (k * row_words) row_words x ∙ ap (λ (n : ℕ). drop n x) same)

no-rows_lem : (x : List ℕ) → length x ≡ 0 → x ≡ []
no-rows_lem [] e = refl
no-rows_lem (a ∷ x) e = absurd (omega arith)

pub tables-ext : (n : ℕ) (x y : List ℕ) → length x ≡ n * row_words → length y ≡ n * row_words → ((k : ℕ) → k < n → table_at x k ≡ table_at y k)
    → x ≡ y
unfolding table_at
tables-ext zero x y hx hy e = no-rows_lem x (omega arith) ∙ sym (no-rows_lem y (omega arith))
tables-ext (suc n) x y hx hy e =
    let rest =
    tables-ext n (drop row_words x) (drop row_words y) (length-drop row_words x ∙ omega arith) (length-drop row_words y ∙ omega arith)
    (λ k l. next-table x k ∙ e (suc k) (omega arith) ∙ sym (next-table y k)) in
    sym (take-append-drop row_words x) ∙ (λ i. e 0 (omega arith) i ++ rest i) ∙ take-append-drop row_words y

-- ---- the tables of relations

pub length-tables_of : (n : ℕ) (r : ℕ → Relation) → length (tables_of n r) ≡ n * row_words
unfolding tables_of
length-tables_of zero r = refl
length-tables_of (suc n) r =
    let a = length-append (rows_of (r 0)) (tables_of n (λ k. r (suc k))) in
    let b = length-rows_of (r 0) in
    let c = length-tables_of n (λ k. r (suc k)) in
    omega arith

pub table-tables_of : (n : ℕ) (r : ℕ → Relation) (k : ℕ) → k < n → table_at (tables_of n r) k ≡ rows_of (r k)
unfolding tables_of table_at
table-tables_of zero r k l = absurd (not-suc-le-zero l)
table-tables_of (suc n) r zero l = take_at (rows_of (r 0)) (tables_of n (λ k. r (suc k))) row_words (length-rows_of (r 0))
table-tables_of (suc n) r (suc k) l =
    sym (next-table (rows_of (r 0) ++ tables_of n (λ j. r (suc j))) k)
    ∙ ap (λ (x : List ℕ). table_at x k) (drop_at (rows_of (r 0)) (tables_of n (λ j. r (suc j))) row_words (length-rows_of (r 0)))
    ∙ table-tables_of n (λ j. r (suc j)) k (le_of_suc-le-suc l)

pub in-tables_of : (n : ℕ) (r : ℕ → Relation) (k a b : ℕ) → k < n → a < width → b < width → in_row (table_at (tables_of n r) k) a b ≡ r k a b
in-tables_of n r k a b l la lb = ap (λ (rows : List ℕ). in_row rows a b) (table-tables_of n r k l) ∙ in-rows_of (r k) a b la lb

-- tables of the right length whose rows are those of relations are their tables
pub is-tables_of : (n : ℕ) (x : List ℕ) (r : ℕ → Relation) → length x ≡ n * row_words → ((k : ℕ) → k < n → table_at x k ≡ rows_of (r k))
    → x ≡ tables_of n r
is-tables_of n x r h e = tables-ext n x (tables_of n r) h (length-tables_of n r) (λ k l. e k l ∙ sym (table-tables_of n r k l))

pub tables_of-ext : (n : ℕ) (r q : ℕ → Relation) → ((k a b : ℕ) → k < n → a < width → b < width → r k a b ≡ q k a b)
    → tables_of n r ≡ tables_of n q
tables_of-ext n r q e =
    is-tables_of n (tables_of n r) q (length-tables_of n r)
    (λ k l. table-tables_of n r k l ∙ rows_of-ext (r k) (q k) (λ a b la lb. e k a b l la lb))

pub length-table : (n : ℕ) (tables : List ℕ) (k : ℕ) → length tables ≡ n * row_words → k < n → length (table_at tables k) ≡ row_words
unfolding table_at
length-table n tables k h l =
    let rest = length-drop (k * row_words) tables in
    length-take-le row_words (drop (k * row_words) tables) (omega arith)

-- a table of tables without a member
pub table_none : (n k : ℕ) → k < n → table_at (no_tables n) k ≡ no_rows
unfolding table_at
table_none n k l =
    let long = length-replicate {A = ℕ} (n * row_words) 0 in
    let is = length-table n (no_tables n) k long l in
    ext_get_or 0 (table_at (no_tables n) k) no_rows (is ∙ sym (length-replicate {A = ℕ} row_words 0))
    (λ i h.
    let low : i < row_words = omega arith in
    get_or-take row_words (drop (k * row_words) (no_tables n)) i 0 low
    ∙ get_or-drop (k * row_words) (no_tables n) i 0
    ∙ get_or-replicate (n * row_words) (k * row_words + i) 0 0 (omega arith)
    ∙ sym (get_or-replicate row_words i 0 0 low))

-- tables without a member are those of relations without a pair
pub empty-tables_of : (n : ℕ) (r : ℕ → Relation) → ((k a b : ℕ) → k < n → a < width → b < width → r k a b ≡ false)
    → no_tables n ≡ tables_of n r
empty-tables_of n r e =
    is-tables_of n (no_tables n) r (length-replicate {A = ℕ} (n * row_words) 0)
    (λ k l. table_none n k l ∙ empty-rows_of (r k) (λ a b la lb. e k a b l la lb))

-- a row that is put into relations' tables: it is enough to know what becomes of its own table
put-in-one : (n : ℕ) (r q : ℕ → Relation) (k a : ℕ) (s : Set)
    → with_row (rows_of (r k)) a s ≡ rows_of (q k) → ((j : ℕ) → (j ≡ k → ⊥) → rows_of (r j) ≡ rows_of (q j))
    → with_row_in (tables_of n r) k a s ≡ tables_of n q
put-in-one n r q k a s same other =
    is-tables_of n (with_row_in (tables_of n r) k a s) q (length-put-in (tables_of n r) k a s
    ∙ length-tables_of n r) (λ j l. at j l (eqb j k) refl)
  where
    at : (j : ℕ) → j < n → (t : Bool) → eqb j k ≡ t → table_at (with_row_in (tables_of n r) k a s) j ≡ rows_of (q j)
    at j l true e =
        let is : j ≡ k = eqb-true j k e in
        ap (table_at (with_row_in (tables_of n r) k a s)) is
        ∙ table-put-same (tables_of n r) k a s
        ∙ ap (λ (rows : List ℕ). with_row rows a s) (table-tables_of n r k (omega arith))
        ∙ same
        ∙ ap (λ (m : ℕ). rows_of (q m)) (sym is)
    at j l false e =
        let n≠ = eqb-false j k e in
        table-put-other (tables_of n r) k a s j n≠ ∙ table-tables_of n r j l ∙ other j n≠

module _ (n : ℕ) (r : ℕ → Relation) (k a : ℕ) (p : ℕ → Bool) where
  -- a row of relations' tables that gains those that pass
  pub gain-tables_of : k < n
      → with_row_in (tables_of n r) k a (those (λ b. mem (row_at (table_at (tables_of n r) k) a) b or p b))
      ≡ tables_of n (λ j x b. r j x b or eqb j k and (eqb x a and p b))
  gain-tables_of l =
      put-in-one n r (λ j x b. r j x b or eqb j k and (eqb x a and p b)) k a
      (those (λ b. mem (row_at (table_at (tables_of n r) k) a) b or p b))
      (ap (λ (rows : List ℕ). with_row (rows_of (r k)) a (those (λ b. mem (row_at rows a) b or p b))) (table-tables_of n r k l)
      ∙ gain-rows_of (r k) a p
      ∙ rows_of-ext (λ x b. r k x b or eqb x a and p b) (λ x b. r k x b or eqb k k and (eqb x a and p b))
      (λ x b lx lb. ap (λ (t : Bool). r k x b or t) (sym (true-and (eqb x a and p b))
      ∙ ap (λ (t : Bool). t and (eqb x a and p b)) (sym (T→true _ (eqb_refl k))))))
      (λ j ne.
      rows_of-ext (r j) (λ x b. r j x b or eqb j k and (eqb x a and p b))
      (λ x b lx lb.
      sym (or-false (r j x b))
      ∙ ap (λ (t : Bool). r j x b or t) (sym (false-and (eqb x a and p b))
      ∙ ap (λ (t : Bool). t and (eqb x a and p b)) (sym (ne_eqb j k ne)))))

-- ---- a relation put into a table, row by row

module _ (n : ℕ) (r : ℕ → Relation) (k : ℕ) (q : Relation) where
  -- the first m rows are there
  abbrev up_to : ℕ → ℕ → Relation
  up_to m j a b = when eqb j k and ltb a m then q a b else r j a b

  other-stays : (m j : ℕ) → (j ≡ k → ⊥) → rows_of (r j) ≡ rows_of (up_to m j)
  unfolding ◌and◌
  other-stays m j ne =
      rows_of-ext (r j) (up_to m j) (λ a b la lb. sym (ap (λ (t : Bool). when t and ltb a m then q a b else r j a b) (ne_eqb j k ne)))

  one-more_lem : (m a b : ℕ) → (t : Bool) → eqb a m ≡ t → (when t then q m b else up_to m k a b) ≡ up_to (suc m) k a b
  unfolding ◌and◌
  one-more_lem m a b true e =
      let same : a ≡ m = eqb-true a m e in
      ap (λ (x : ℕ). q x b) (sym same)
      ∙ sym ((λ i. when T→true (eqb k k) (eqb_refl k) i and lt-ltb a (suc m) (omega arith) i then q a b else r k a b))
  one-more_lem m a b false e =
      let ne = eqb-false a m e in
      ap (λ (t : Bool). when eqb k k and t then q a b else r k a b)
      (T-ext (ltb a m) (ltb a (suc m)) (λ t. lt→ltb a (suc m) (omega (arith, ltb→lt a m t)))
      (λ t. lt→ltb a m (omega (arith, ltb→lt a (suc m) t))))

  none : (t : Bool) (j a b : ℕ) → r j a b ≡ when t and ltb a 0 then q a b else r j a b
  unfolding ◌and◌
  none true j a b = ap (λ (t : Bool). when t then q a b else r j a b) (sym (le-ltb a 0 (omega arith)))
  none false j a b = refl

  all : (t : Bool) (j a b : ℕ) → a < width → (when t and ltb a width then q a b else r j a b) ≡ (when t then q else r j) a b
  unfolding ◌and◌
  all true j a b l = ap (λ (t : Bool). when t then q a b else r j a b) (lt-ltb a width l)
  all false j a b l = refl

  rows-so-far : (m : ℕ) → m ≤ width → with_rows_in (tables_of n r) k (rows_of q) m ≡ tables_of n (up_to m)
  unfolding with_rows_in
  rows-so-far zero l = tables_of-ext n r (up_to 0) (λ j a b lj la lb. none (eqb j k) j a b)
  rows-so-far (suc m) l =
      ap (λ (x : List ℕ). with_row_in x k m (row_at (rows_of q) m)) (rows-so-far m (omega arith))
      ∙ ap (with_row_in (tables_of n (up_to m)) k m) (row-rows_of q m (omega arith))
      ∙ put-in-one n (up_to m) (up_to (suc m)) k m (those (q m))
      (put-rows_of (up_to m k) m (q m) ∙ rows_of-ext _ (up_to (suc m) k) (λ a b la lb. one-more_lem m a b (eqb a m) refl))
      (λ j ne. sym (other-stays m j ne) ∙ other-stays (suc m) j ne)

  -- the table of a relation that is put there; the others stay
  pub fill-tables_of : with_table (tables_of n r) k (rows_of q) ≡ tables_of n (λ j. when eqb j k then q else r j)
  fill-tables_of =
      rows-so-far width (omega arith)
      ∙ tables_of-ext n (up_to width) (λ j. when eqb j k then q else r j) (λ j a b lj la lb. all (eqb j k) j a b la)

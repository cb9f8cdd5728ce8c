-- Rows of a file as 01 wants them, and what the rows that they fill hold. Assumes nothing.
use mathlib.Core.Path.{◌≡◌, refl, sym, ap, ◌∙◌, subst}
use mathlib.Core.Bool.{true, false}
use mathlib.Core.Logic.{◌⊎◌, inl, inr}
use mathlib.Core.List.{List}
use Prim.Native.Nat.{ℕ, zero, suc, ◌+◌, ◌*◌, ◌≤◌, ◌<◌, suc-le-suc}
use native.Mathlib.Nat.{not-suc-le-zero, le_of_suc-le-suc, zero-lt-suc, add-zero, add-suc, suc-add}
use native.Mathlib.Omega.{arith}
use borrow.Author.Tests.{lt-ltb, ltb-true, ltb-false}
use lib.Dec.{T, eqb, ltb, eqb→eq}
use lib.ListN.{length, length-replicate}
use Rattle.sets.specs.Tests.{◌or◌, non}
use Rattle.sets.specs.Members.{width, mem, is_empty, within}
use Rattle.sets.specs.Rows.{row_words, no_rows, row_at, with_row}
use Rattle.sets.specs.Tables.{table_at, with_row_in}
use Rattle.sets.specs.declared.set.Set.{Set}
use Rattle.sets.specs.declared.answer.Answer.TheVariants.{Done, Outside, BadRow}
use Rattle.sets.proofs.Tests.{split, either, T→true, F→false, non-false, and_i, or_l, eqb_of, neither}
use Rattle.sets.proofs.RowLaws.{length-put, row-put-same, row-put-other}
use Rattle.sets.proofs.TableLaws.{table-put-same, table-put-other, length-put-in, table_none}
use Rattle.engine.specs.Judged.{row_within}
use Rattle.engine.specs.Relations.{relation_count}
use Rattle.graphfile.specs.Layout.{events_in, count_in, earlier_rows, key_in, row_in}
use Rattle.graphfile.specs.Refusals.{rises, row_answer, judged_row}
use Rattle.graphfile.specs.Held.{filled, with_relations, relations_in}
use Rattle.sets.proofs.Asking.{went}

-- ---- n rows of the file from row k on, with rising keys from a on

pub record LegalRow (events : Set) (bytes : List ℕ) (k : ℕ) : Type 0 where
  pub low : key_in bytes k < width
  pub event : T (mem events (key_in bytes k))
  pub inside : T (within (row_in bytes k) events)
  pub some : is_empty (row_in bytes k) ≡ false

abbrev pub Legal : Set → List ℕ → ℕ → ℕ → ℕ → Type 0
Legal events bytes a zero k = Unit
Legal events bytes a (suc n) k = (a ≤ key_in bytes k) × LegalRow events bytes k × Legal events bytes (suc (key_in bytes k)) n (suc k)

pub from-lower : (events : Set) (bytes : List ℕ) (a b n k : ℕ) → (0 < n → b ≤ key_in bytes k) → Legal events bytes a n k
    → Legal events bytes b n k
from-lower events bytes a b zero k h l = tt
from-lower events bytes a b (suc n) k h l = (h (zero-lt-suc n), l.1, l.2)

-- ---- the rows that they fill

-- a relation's rows, with n rows of the file put into them, from row k on
unfoldable pub rows_filled : List ℕ → List ℕ → ℕ → ℕ → List ℕ
rows_filled bytes rows zero k = rows
rows_filled bytes rows (suc n) k = rows_filled bytes (with_row rows (key_in bytes k) (row_in bytes k)) n (suc k)

pub length-rows_filled : (bytes rows : List ℕ) (n k : ℕ) → length (rows_filled bytes rows n k) ≡ length rows
unfolding rows_filled
length-rows_filled bytes rows zero k = refl
length-rows_filled bytes rows (suc n) k =
    length-rows_filled bytes (with_row rows (key_in bytes k) (row_in bytes k)) n (suc k) ∙ length-put rows (key_in bytes k) (row_in bytes k)

module _ (events : Set) (bytes : List ℕ) where
  -- below the keys the rows stay
  pub filled-below : (rows : List ℕ) (a n k b : ℕ) → Legal events bytes a n k → b < a → row_at (rows_filled bytes rows n k) b ≡ row_at rows b
  unfolding rows_filled
  filled-below rows a zero k b l h = refl
  filled-below rows a (suc n) k b l h =
      let up = l.0 in
      filled-below (with_row rows (key_in bytes k) (row_in bytes k)) (suc (key_in bytes k)) n (suc k) b l.2 (omega arith)
      ∙ row-put-other rows (key_in bytes k) (row_in bytes k) b (λ e. omega arith)

  -- at the first key stands its set
  pub filled-first : (rows : List ℕ) (a n k : ℕ) → length rows ≡ row_words → Legal events bytes a (suc n) k
      → row_at (rows_filled bytes rows (suc n) k) (key_in bytes k) ≡ row_in bytes k
  unfolding rows_filled
  filled-first rows a n k e l =
      filled-below (with_row rows (key_in bytes k) (row_in bytes k)) (suc (key_in bytes k)) n (suc k) (key_in bytes k) l.2 (omega arith)
      ∙ row-put-same rows (key_in bytes k) (row_in bytes k) l.1.low e

  -- a legal row is within the events as a row of a graph is
  row_inside : (k : ℕ) → LegalRow events bytes k → T (row_within events (key_in bytes k) (row_in bytes k))
  unfolding row_within
  row_inside k l = and_i _ _ l.inside (or_l _ _ l.event)

  pub filled-inside : (rows : List ℕ) (a n k : ℕ) → length rows ≡ row_words → Legal events bytes a n k
      → ((b : ℕ) → b < width → T (row_within events b (row_at rows b))) → (b : ℕ) → b < width
      → T (row_within events b (row_at (rows_filled bytes rows n k) b))
  unfolding rows_filled
  filled-inside rows a zero k e l f = f
  filled-inside rows a (suc n) k e l f =
      filled-inside (with_row rows (key_in bytes k) (row_in bytes k)) (suc (key_in bytes k)) n (suc k)
      (length-put rows (key_in bytes k) (row_in bytes k) ∙ e) l.2
      (λ b h. put b h (split (eqb b (key_in bytes k))))
    where
      put : (b : ℕ) → b < width → T (eqb b (key_in bytes k)) ⊎ (T (eqb b (key_in bytes k)) → ⊥)
          → T (row_within events b (row_at (with_row rows (key_in bytes k) (row_in bytes k)) b))
      put b h (inl t) =
          let same : b ≡ key_in bytes k = eqb→eq b (key_in bytes k) t in
          subst (λ (x : ℕ). T (row_within events x (row_at (with_row rows (key_in bytes k) (row_in bytes k)) x))) (sym same)
          (subst (λ (s : Set). T (row_within events (key_in bytes k) s))
          (sym (row-put-same rows (key_in bytes k) (row_in bytes k) l.1.low e)) (row_inside k l.1))
      put b h (inr n) =
          subst (λ (s : Set). T (row_within events b s)) (sym (row-put-other rows (key_in bytes k) (row_in bytes k) b (λ q. n (eqb_of q))))
          (f b h)

-- ---- table by table

module _ (bytes : List ℕ) (r : ℕ) where
  -- the table that is filled
  table_filled : (n k : ℕ) (tables : List ℕ) → table_at (filled bytes tables r n k) r ≡ rows_filled bytes (table_at tables r) n k
  unfolding filled rows_filled
  table_filled zero k tables = refl
  table_filled (suc n) k tables =
      table_filled n (suc k) (with_row_in tables r (key_in bytes k) (row_in bytes k))
      ∙ ap (λ (rows : List ℕ). rows_filled bytes rows n (suc k)) (table-put-same tables r (key_in bytes k) (row_in bytes k))

  -- the others stay
  other-filled : (n k : ℕ) (tables : List ℕ) (j : ℕ) → (j ≡ r → ⊥) → table_at (filled bytes tables r n k) j ≡ table_at tables j
  unfolding filled
  other-filled zero k tables j ne = refl
  other-filled (suc n) k tables j ne =
      other-filled n (suc k) (with_row_in tables r (key_in bytes k) (row_in bytes k)) j ne
      ∙ table-put-other tables r (key_in bytes k) (row_in bytes k) j ne

  length-filled : (n k : ℕ) (tables : List ℕ) → length (filled bytes tables r n k) ≡ length tables
  unfolding filled
  length-filled zero k tables = refl
  length-filled (suc n) k tables =
      length-filled n (suc k) (with_row_in tables r (key_in bytes k) (row_in bytes k)) ∙ length-put-in tables r (key_in bytes k) (row_in bytes k)

-- the rows of relation r
unfoldable pub relation_in : List ℕ → ℕ → List ℕ
relation_in bytes r = rows_filled bytes no_rows (count_in bytes r) (earlier_rows bytes r)

pub length-relations_in : (bytes : List ℕ) (n : ℕ) → length (relations_in bytes n) ≡ relation_count * row_words
unfolding with_relations
length-relations_in bytes zero = length-replicate {A = ℕ} (relation_count * row_words) 0
length-relations_in bytes (suc n) =
    length-filled bytes n (count_in bytes n) (earlier_rows bytes n) (relations_in bytes n) ∙ length-relations_in bytes n

-- a relation that is not read yet has no rows
not_yet : (bytes : List ℕ) (n r : ℕ) → n ≤ r → r < relation_count → table_at (relations_in bytes n) r ≡ no_rows
unfolding with_relations
not_yet bytes zero r h l = table_none relation_count r l
not_yet bytes (suc n) r h l =
    other-filled bytes n (count_in bytes n) (earlier_rows bytes n) (relations_in bytes n) r (λ e. omega arith)
    ∙ not_yet bytes n r (omega arith) l

pub table-read : (bytes : List ℕ) (n r : ℕ) → r < n → n ≤ relation_count → table_at (relations_in bytes n) r ≡ relation_in bytes r
unfolding with_relations relation_in
table-read bytes zero r h l = absurd (not-suc-le-zero h)
table-read bytes (suc n) r h l =
    either (split (ltb r n))
    (λ t.
    let low : r < n = ltb-true r n (T→true _ t) in
    other-filled bytes n (count_in bytes n) (earlier_rows bytes n) (relations_in bytes n) r (λ e. omega arith)
    ∙ table-read bytes n r low (omega arith))
    (λ f.
    let high = ltb-false r n (F→false _ f) in
    let same : r ≡ n = omega arith in
    ap (table_at (filled bytes (relations_in bytes n) n (count_in bytes n) (earlier_rows bytes n))) same
    ∙ table_filled bytes n (count_in bytes n) (earlier_rows bytes n) (relations_in bytes n)
    ∙ ap (λ (rows : List ℕ). rows_filled bytes rows (count_in bytes n) (earlier_rows bytes n)) (not_yet bytes n n (omega arith) (omega arith))
    ∙ ap (λ (k : ℕ). rows_filled bytes no_rows (count_in bytes k) (earlier_rows bytes k)) (sym same))

-- ---- legal rows are those that are judged done

module _ (bytes : List ℕ) (first : ℕ) where
  -- the key before row j, if there is one, is below a
  after_last : (j a : ℕ) → ((i : ℕ) → j ≡ suc i → key_in bytes (first + i) < a) → a ≤ key_in bytes (first + j) → rises bytes first j ≡ true
  unfolding rises
  after_last zero a f h = refl
  after_last (suc j) a f h = lt-ltb (key_in bytes (first + j)) (key_in bytes (first + suc j)) (omega (arith, f j refl))

  row_done : (j : ℕ) → LegalRow (events_in bytes) bytes (first + j) → rises bytes first j ≡ true → judged_row bytes first j ≡ Done
  unfolding row_answer ◌or◌ non
  row_done j l u =
      rw (
        T→true (mem (events_in bytes) (key_in bytes (first + j))) l.event,
        T→true (within (row_in bytes (first + j)) (events_in bytes))
            l.inside,
        l.some,
        u,
      )

  above : (j : ℕ) → rises bytes first (suc j) ≡ true → key_in bytes (first + j) < key_in bytes (first + suc j)
  unfolding rises
  above j h = ltb-true (key_in bytes (first + j)) (key_in bytes (first + suc j)) h

  module _ (low : (x : ℕ) → T (mem (events_in bytes) x) → x < width) where
    row-facts : (j : ℕ) → judged_row bytes first j ≡ Done → LegalRow (events_in bytes) bytes (first + j) × (rises bytes first j ≡ true)
    unfolding row_answer
    row-facts j h =
        let five = went _ Outside _ refl h in
        let six = went _ BadRow Done refl five.1 in
        let inside = neither _ _ five.0 in
        let event = non-false _ inside.0 in
        let stands = neither _ _ six.0 in (
          record { low = low (key_in bytes (first + j)) event; event = event; inside = non-false _ inside.1; some = stands.0 },
          T→true _ (non-false _ stands.1),
        )

    pub done-legal : (n j a : ℕ) → (0 < n → a ≤ key_in bytes (first + j)) → ((i : ℕ) → i < n → judged_row bytes first (j + i) ≡ Done)
        → Legal (events_in bytes) bytes a n (first + j)
    done-legal zero j a up f = tt
    done-legal (suc n) j a up f =
        let here = row-facts j (ap (judged_row bytes first) (sym (add-zero j)) ∙ f 0 (zero-lt-suc n)) in
        let rest : (i : ℕ) → i < n
        → judged_row bytes first (suc j + i) ≡ Done = λ i l. ap (judged_row bytes first) (suc-add j i ∙ sym (add-suc j i))
        ∙ f (suc i) (suc-le-suc l) in (
          up (zero-lt-suc n),
          here.0,
          subst (λ (k : ℕ). Legal (events_in bytes) bytes (suc (key_in bytes (first + j))) n k) (add-suc first j)
              (done-legal n (suc j) (suc (key_in bytes (first + j)))
              (λ p. above j (row-facts (suc j) (ap (judged_row bytes first) (sym (add-zero (suc j))) ∙ rest 0 p)).1) rest),
        )

  pub legal-done : (n j a : ℕ) → ((i : ℕ) → j ≡ suc i → key_in bytes (first + i) < a) → Legal (events_in bytes) bytes a n (first + j)
      → (i : ℕ) → i < n → judged_row bytes first (j + i) ≡ Done
  legal-done zero j a before l i h = absurd (not-suc-le-zero h)
  legal-done (suc n) j a before l zero h = ap (judged_row bytes first) (add-zero j) ∙ row_done j l.1 (after_last j a before l.0)
  legal-done (suc n) j a before l (suc i) h =
      ap (judged_row bytes first) (add-suc j i ∙ sym (suc-add j i))
      ∙ legal-done n (suc j) (suc (key_in bytes (first + j))) (λ x e. let same : x
      ≡ j = omega arith in subst (λ (y : ℕ). key_in bytes (first + y) < suc (key_in bytes (first + j))) (sym same) (omega arith))
      (subst (λ (k : ℕ). Legal (events_in bytes) bytes (suc (key_in bytes (first + j))) n k) (sym (add-suc first j)) l.2) i
      (le_of_suc-le-suc h)

-- The rows of a graph, written and read again. Assumes nothing.
use mathlib.Core.Path.{◌≡◌, refl, sym, ap, ◌∙◌, subst}
use mathlib.Core.Bool.{Bool, true, false}
use mathlib.Core.List.{List, [], ◌∷◌, ◌++◌, append_assoc}
use Prim.Native.Nat.{ℕ, zero, suc, ◌+◌, ◌≤◌, ◌<◌}
use native.Mathlib.Nat.{add-zero, zero-add, le_refl, le_of_suc-le-suc}
use native.Mathlib.Numerals.{one-add}
use native.Mathlib.Omega.{arith}
use lib.Arith.{lt_of_le-ne}
use borrow.Author.Tests.{ltb-true, ltb-false}
use lib.Dec.{T, eqb, ltb, eqb→eq}
use lib.ListN.{length, get_or, take, drop}
use lib.Seq.{take_at, drop_at, drop-drop, get_or-drop}
use Rattle.sets.specs.Tests.{when◌then◌else◌}
use Rattle.sets.specs.Members.{width, mem, no_set, is_empty, within}
use Rattle.sets.specs.Rows.{row_words, row_at, with_row}
use Rattle.sets.specs.declared.set.Set.{Set}
use Rattle.sets.proofs.Tests.{T→true, F→false, and_l, and_r, or-e, split, either, false→F, eqb_of}
use Rattle.sets.proofs.Members.{Whole, whole-empty}
use Rattle.sets.proofs.RowLaws.{length-put, row-put-same, row-put-other}
use Rattle.engine.specs.Judged.{row_within}
use Rattle.graphfile.specs.Layout.{row_length, row_place, key_in, row_in}
use Rattle.octets.specs.Editions.{wide_in}
use Rattle.graphfile.specs.Refusals.{most_rows}
use Rattle.graphfile.specs.Writing.{row_of, rows_for, rows_from, count_from}
use Rattle.octets.specs.Sets.{set_length, set_bytes}
use Rattle.octets.proofs.SetLaws.{Holds}
use Rattle.octets.proofs.SetLaws.{length-set, set-read}
use Rattle.graphfile.proofs.RowLengths.{set-most, rows-suc}
use Rattle.graphfile.proofs.FileBack.{row-empty, row-some}
use Rattle.graphfile.proofs.Legal.{LegalRow, Legal, rows_filled}

-- ---- what is read where a row was written

module _ (bytes : List ℕ) (k a : ℕ) (s : Set) (rest : List ℕ) (whole : Whole s) (holds : Holds (wide_in bytes) s)
    (here : drop (row_place bytes k) bytes ≡ (a ∷ set_bytes (wide_in bytes) s) ++ rest) where
  key-read : key_in bytes k ≡ a
  key-read =
      ap (λ (n : ℕ). get_or bytes n 0) (sym (add-zero (row_place bytes k)))
      ∙ sym (get_or-drop (row_place bytes k) bytes 0 0)
      ∙ ap (λ (l : List ℕ). get_or l 0 0) here

  row_read : row_in bytes k ≡ s
  row_read =
      set-read (wide_in bytes) bytes (row_place bytes k + 1) s
      (ap (take (set_length (wide_in bytes))) (sym (drop-drop 1 (row_place bytes k) bytes) ∙ ap (drop 1) here)
      ∙ take_at (set_bytes (wide_in bytes) s) rest (set_length (wide_in bytes)) (length-set (wide_in bytes) s)) whole holds

  rest_read : drop (row_place bytes (suc k)) bytes ≡ rest
  rest_read =
      let next : row_place bytes (suc k) ≡ row_place bytes k + row_length (wide_in bytes) = omega (arith, rows-suc (wide_in bytes) k) in
      let after : row_length (wide_in bytes) ≡ length (a ∷ set_bytes (wide_in bytes) s) = omega (arith, length-set (wide_in bytes) s) in
      ap (λ (n : ℕ). drop n bytes) next
      ∙ sym (drop-drop (row_length (wide_in bytes)) (row_place bytes k) bytes)
      ∙ ap (drop (row_length (wide_in bytes))) here
      ∙ drop_at (a ∷ set_bytes (wide_in bytes) s) rest (row_length (wide_in bytes)) (sym after)

-- ---- row by row

module _ (events : Set) (bytes rows tail : List ℕ) (whole : (b : ℕ) → Whole (row_at rows b)) (holds : (b : ℕ) → Holds (wide_in bytes) (row_at rows b))
    (inside : (b : ℕ) → b < width → T (row_within events b (row_at rows b))) (fits : Holds (wide_in bytes) events) where
  -- what is held has the first a rows, and empty ones from there on
  pub record Held (a : ℕ) (held : List ℕ) : Type 0 where
    pub many : length held ≡ row_words
    pub there : (b : ℕ) → b < a → row_at held b ≡ row_at rows b
    pub empty : (b : ℕ) → a ≤ b → row_at held b ≡ no_set

  module _ (a : ℕ) (l : a < width) (held : List ℕ) (h : Held a held) where
    -- an empty row is there already, and a row that is put is there
    stays : is_empty (row_at rows a) ≡ true → Held (suc a) held
    stays t =
        record {
          many = h.many;
          there = λ b k.
              either (split (eqb b a))
              (λ e. subst (λ (x : ℕ). row_at held x ≡ row_at rows x) (sym (eqb→eq b a e)) (h.empty a (le_refl a)
              ∙ whole-empty (row_at rows a) (whole a) t))
              (λ ne. h.there b (lt_of_le-ne (le_of_suc-le-suc k) (λ q. ne (eqb_of q))));
          empty = λ b k. h.empty b (omega arith);
        }

    puts : Held (suc a) (with_row held a (row_at rows a))
    puts =
        record {
          many = length-put held a (row_at rows a) ∙ h.many;
          there = λ b k.
              either (split (eqb b a))
              (λ e.
              subst (λ (x : ℕ). row_at (with_row held a (row_at rows a)) x ≡ row_at rows x) (sym (eqb→eq b a e))
              (row-put-same held a (row_at rows a) l h.many))
              (λ ne.
              row-put-other held a (row_at rows a) b (λ q. ne (eqb_of q))
              ∙ h.there b (lt_of_le-ne (le_of_suc-le-suc k) (λ q. ne (eqb_of q))));
          empty = λ b k. row-put-other held a (row_at rows a) b (λ q. omega arith) ∙ h.empty b (omega arith);
        }

    event : is_empty (row_at rows a) ≡ false → T (mem events a)
    unfolding row_within
    event t = either (or-e (mem events a) (is_empty (row_at rows a)) (and_r _ _ (inside a l))) (λ x. x) (λ x. absurd (false→F t x))

    set-inside : T (within (row_at rows a) events)
    unfolding row_within
    set-inside = and_l _ _ (inside a l)

  -- m more activities from a on, whose rows stand in the file from row k on
  abbrev Back : ℕ → ℕ → ℕ → List ℕ → Type 0
  Back m a k held =
      ((b : ℕ) → b < width
      → row_at (rows_filled bytes held (count_from rows m a) k) b ≡ row_at rows b) × Legal events bytes a (count_from rows m a) k

  module _ (a m k : ℕ) (l : a < width) (held : List ℕ) (h : Held a held)
      (here : drop (row_place bytes k) bytes ≡ rows_from (wide_in bytes) rows (suc m) a ++ tail) where
    regrouped : (row : List ℕ) → row_of (wide_in bytes) a (row_at rows a) ≡ row
        → drop (row_place bytes k) bytes ≡ row ++ (rows_from (wide_in bytes) rows m (suc a) ++ tail)
    unfolding rows_from
    regrouped row r =
        here
        ∙ append_assoc (row_of (wide_in bytes) a (row_at rows a)) (rows_from (wide_in bytes) rows m (suc a)) tail
        ∙ ap (λ (x : List ℕ). x ++ (rows_from (wide_in bytes) rows m (suc a) ++ tail)) r

    -- how many rows, by whether the first is empty
    counted : (b : Bool) → is_empty (row_at rows a) ≡ b → count_from rows (suc m) a ≡ (when b then 0 else 1) + count_from rows m (suc a)
    unfolding count_from rows_for
    counted b t = ap (λ (x : Bool). (when x then 0 else 1) + count_from rows m (suc a)) t

    -- the row is empty: it is not in the file
    skip : is_empty (row_at rows a) ≡ true
        → (Held (suc a) held → drop (row_place bytes k) bytes ≡ rows_from (wide_in bytes) rows m (suc a) ++ tail → Back m (suc a) k held)
        → Back (suc m) a k held
    skip t ih =
        let count = counted true t ∙ zero-add (count_from rows m (suc a)) in
        let next = ih (stays a l held h t) (regrouped [] (row-empty (wide_in bytes) a (row_at rows a) t)) in (
          (λ b low. ap (λ (n : ℕ). row_at (rows_filled bytes held n k) b) count ∙ next.0 b low),
          subst (λ (n : ℕ). Legal events bytes a n k) (sym count) (lower (count_from rows m (suc a)) next.1),
        )
      where
        lower : (n : ℕ) → Legal events bytes (suc a) n k → Legal events bytes a n k
        lower zero g = tt
        lower (suc n) g = let up = g.0 in (omega arith, g.1, g.2)

    -- the row is not empty: its key and its set are read
    take_row : is_empty (row_at rows a) ≡ false
        → (Held (suc a) (with_row held a (row_at rows a)) → drop (row_place bytes (suc k)) bytes ≡ rows_from (wide_in bytes) rows m (suc a) ++ tail
        → Back m (suc a) (suc k) (with_row held a (row_at rows a)))
        → Back (suc m) a k held
    unfolding rows_filled
    take_row t ih =
        let row = regrouped (a ∷ set_bytes (wide_in bytes) (row_at rows a)) (row-some (wide_in bytes) a (row_at rows a) t) in
        let key : key_in bytes k ≡ a = key-read bytes k a (row_at rows a) _ (whole a) (holds a) row in
        let set : row_in bytes k ≡ row_at rows a = row_read bytes k a (row_at rows a) _ (whole a) (holds a) row in
        let next = ih (puts a l held h) (rest_read bytes k a (row_at rows a) _ (whole a) (holds a) row) in
        let count : count_from rows (suc m) a ≡ suc (count_from rows m (suc a)) = counted false t ∙ one-add (count_from rows m (suc a)) in
        let legal : LegalRow events bytes k =
        record {
          low = subst (λ (x : ℕ). x < width) (sym key) l;
          event = subst (λ (x : ℕ). T (mem events x)) (sym key) (event a l held h t);
          inside = subst (λ (s : Set). T (within s events)) (sym set) (set-inside a l held h);
          some = ap is_empty set ∙ t;
        } in (
          (λ b low.
              ap (λ (n : ℕ). row_at (rows_filled bytes held n k) b) count
              ∙ (λ i. row_at (rows_filled bytes (with_row held (key i) (set i)) (count_from rows m (suc a)) (suc k)) b)
              ∙ next.0 b low),
          subst (λ (n : ℕ). Legal events bytes a n k) (sym count)
              (omega arith, legal, subst (λ (x : ℕ). Legal events bytes (suc x) (count_from rows m (suc a)) (suc k)) (sym key) next.1),
        )

  -- once the activities are there that the form has a bit for, all is: no other is an event, so no other has a row
  all_there : (a : ℕ) (held : List ℕ) → most_rows (wide_in bytes) ≤ a → Held a held → (b : ℕ) → b < width → row_at held b ≡ row_at rows b
  unfolding row_within
  all_there a held most h b low =
      either (split (ltb b a)) (λ t. h.there b (ltb-true b a (T→true _ t)))
      (λ f.
      let far = ltb-false b a (F→false _ f) in
      either (or-e (mem events b) (is_empty (row_at rows b)) (and_r _ _ (inside b low)))
      (λ m. let near = fits b m in absurd (omega arith))
      (λ e. h.empty b far ∙ whole-empty (row_at rows b) (whole b) (T→true _ e)))

  pub rows-forth : (m a k : ℕ) (held : List ℕ) → a + m ≡ most_rows (wide_in bytes) → Held a held
      → drop (row_place bytes k) bytes ≡ rows_from (wide_in bytes) rows m a ++ tail → Back m a k held
  unfolding count_from rows_filled
  rows-forth zero a k held e h here = (all_there a held (omega arith) h, tt)
  rows-forth (suc m) a k held e h here =
      pick (is_empty (row_at rows a)) refl (λ h' here'. rows-forth m (suc a) k held (omega arith) h' here')
      (λ h' here'. rows-forth m (suc a) (suc k) (with_row held a (row_at rows a)) (omega arith) h' here')
    where
      pick : (b : Bool) → is_empty (row_at rows a) ≡ b
          → (Held (suc a) held → drop (row_place bytes k) bytes ≡ rows_from (wide_in bytes) rows m (suc a) ++ tail → Back m (suc a) k held)
          → (Held (suc a) (with_row held a (row_at rows a)) → drop (row_place bytes (suc k)) bytes ≡ rows_from (wide_in bytes) rows m (suc a) ++ tail
          → Back m (suc a) (suc k) (with_row held a (row_at rows a)))
          → Back (suc m) a k held
      pick true t ih ih' = skip a m k (omega (arith, set-most (wide_in bytes))) held h here t ih
      pick false t ih ih' = take_row a m k (omega (arith, set-most (wide_in bytes))) held h here t ih'

-- From a file to its graph and back: every accepted file, read and written again, is that file, and its graph is acceptable. Assumes nothing.
use mathlib.Core.Path.{◌≡◌, refl, sym, ap, ◌∙◌, subst}
use mathlib.Core.Bool.{Bool, true, false}
use mathlib.Core.Logic.{◌⊎◌, inl, inr}
use mathlib.Core.List.{List, [], ◌∷◌, ◌++◌}
use Prim.Native.Nat.{ℕ, zero, suc, ◌+◌, ◌*◌, ◌≤◌, ◌<◌, zero-le}
use native.Mathlib.Nat.{add-zero, zero-add}
use native.Mathlib.Omega.{arith}
use borrow.Author.Tests.{le-ltb}
use lib.Arith.{lt_of_le-ne}
use lib.Dec.{T, eqb, eqb→eq}
use lib.ListN.{length}
use Rattle.sets.specs.Tests.{when◌then◌else◌}
use Rattle.sets.specs.Members.{width, mem, no_set, is_empty}
use Rattle.sets.specs.Rows.{row_words, no_rows, row_at, with_row}
use Rattle.sets.specs.Tables.{table_at}
use Rattle.sets.specs.Sizes.{most_activities}
use Rattle.octets.specs.Numbers.{little_endian, number_length}
use Rattle.sets.specs.declared.set.Set.{Set}
use Rattle.sets.specs.declared.answer.Answer.TheVariants.{Done}
use Rattle.sets.proofs.Tests.{split, T→true, true→T, false→F, and_l, and_i, or_r, eqb_of}
use Rattle.sets.proofs.Below.{every-i}
use Rattle.sets.proofs.Members.{mem-none, empty-no_set, within-i, whole-low}
use Rattle.sets.proofs.RowLaws.{row-none, row-put-other, length-put}
use Rattle.octets.proofs.Opens.{opens-is}
use Rattle.engine.specs.Relations.{relation_count}
use Rattle.engine.specs.Judged.{row_within, rows_within, relations_within, graph_within, judged}
use Rattle.engine.proofs.Acceptable.{judged-at}
use Rattle.graphfile.specs.Layout.{letters, wide_for, head_length, row_length, rows_length, row_place, activities_in, events_in, state_in, head_in, offset_in, count_in, sum_of}
use Rattle.octets.specs.Editions.{wide_in}
use Rattle.graphfile.specs.Layout.{activities_place, events_place, executed_place, state_length, entries_place, entry_length, earlier_rows, key_in, row_in}
use Rattle.graphfile.specs.Refusals.{most_rows, judged_row}
use Rattle.graphfile.specs.Held.{relations_in, graph_in}
use Rattle.graphfile.specs.Writing.{row_of, rows_from, row_count, rows_before, entry_bytes, entries_bytes, state_bytes}
use Rattle.graphfile.specs.Writing.{head_bytes}
use Rattle.graphfile.specs.Writing.{relation_bytes, relations_bytes, bytes_by, bytes_of}
use Rattle.octets.specs.Sets.{set_length, set_bytes, set_at}
use Rattle.octets.proofs.SetLaws.{Holds}
use Rattle.octets.proofs.Codec.{Bytes}
use Rattle.octets.proofs.Parts.{part, meet, length_part, part-whole, part-one}
use Rattle.octets.proofs.NumberLaws.{part-number}
use Rattle.octets.specs.Editions.{wide_edition, edition_for, opens_file}
use Rattle.octets.specs.Opens.{opens_with}
use Rattle.octets.proofs.SetLaws.{set-part, set-whole, set_holds}
use Rattle.graphfile.proofs.RowLengths.{rows_none, rows-add, rows-suc, rows-le, rows_same}
use Rattle.graphfile.proofs.Accepted.{Accepted, head_done, entry_done}
use Rattle.graphfile.proofs.Stores.{length-rows}
use Rattle.graphfile.proofs.Legal.{Legal, rows_filled, relation_in, from-lower, filled-below, filled-first, filled-inside}
use Rattle.graphfile.proofs.Legal.{table-read, done-legal}
use Rattle.graphfile.proofs.Places.{sum-ext, rows-end_lem}

-- ---- the rows of a relation

pub row-empty : (wide : Bool) (a : ℕ) (s : Set) → is_empty s ≡ true → row_of wide a s ≡ []
unfolding row_of
row-empty wide a s e = ap (λ (b : Bool). when b then [] else a ∷ set_bytes wide s) e

pub row-some : (wide : Bool) (a : ℕ) (s : Set) → is_empty s ≡ false → row_of wide a s ≡ a ∷ set_bytes wide s
unfolding row_of
row-some wide a s e = ap (λ (b : Bool). when b then [] else a ∷ set_bytes wide s) e

-- a row that was read, put down again
part-row : (l : List ℕ) → Bytes l → (k : ℕ) → row_place l k + row_length (wide_in l) ≤ length l
    → (key_in l k ∷ set_bytes (wide_in l) (row_in l k)) ≡ part l (row_place l k) (row_length (wide_in l))
part-row l bytes k h =
    meet l (key_in l k ∷ []) (set_bytes (wide_in l) (row_in l k)) (row_place l k) 1 (row_place l k + 1) (set_length (wide_in l)) refl
    (part-one l (row_place l k) (omega arith)) (set-part (wide_in l) l bytes (row_place l k + 1) (omega arith))

module _ (events : Set) (bytes : List ℕ) (small : Bytes bytes) (fits : Holds (wide_in bytes) events) where
  abbrev wide : Bool
  wide = wide_in bytes

  -- the first of the rows, where its key is a
  row_back : (a n k : ℕ) (rows : List ℕ) → length rows ≡ row_words → Legal events bytes a (suc n) k → key_in bytes k ≡ a
      → row_place bytes k + row_length wide ≤ length bytes
      → row_of wide a (row_at (rows_filled bytes rows (suc n) k) a) ≡ part bytes (row_place bytes k) (row_length wide)
  row_back a n k rows len l same room =
      ap (λ (x : ℕ). row_of wide x (row_at (rows_filled bytes rows (suc n) k) x)) (sym same)
      ∙ ap (row_of wide (key_in bytes k)) (filled-first events bytes rows a n k len l)
      ∙ row-some wide (key_in bytes k) (row_in bytes k) l.1.some
      ∙ part-row bytes small k room

  -- m activities from a on, and n legal rows from row k on, put into rows that are empty from a on
  rows_back : (m a n k : ℕ) (rows : List ℕ) → a + m ≡ most_rows wide → length rows ≡ row_words → ((b : ℕ) → a ≤ b → is_empty (row_at rows b) ≡ true)
      → Legal events bytes a n k → row_place bytes (k + n) ≤ length bytes
      → rows_from wide (rows_filled bytes rows n k) m a ≡ part bytes (row_place bytes k) (rows_length wide n)
  unfolding rows_from rows_filled
  rows_back zero a zero k rows e len none l room = ap (part bytes (row_place bytes k)) (sym (rows_none wide))
  rows_back zero a (suc n) k rows e len none l room =
      let up = l.0 in
      let low = fits (key_in bytes k) l.1.event in
      absurd (omega arith)
  rows_back (suc m) a zero k rows e len none l room =
      ap (λ (r : List ℕ). r ++ rows_from wide rows m (suc a)) (row-empty wide a (row_at rows a) (none a (omega arith)))
      ∙ rows_back m (suc a) zero k rows (omega arith) len (λ b h. none b (omega arith)) tt room
  rows_back (suc m) a (suc n) k rows e len none l room =
      pick (split (eqb (key_in bytes k) a))
      (λ rows' len' none' l'. rows_back m (suc a) n (suc k) rows' (omega arith) len' none' l' (subst (λ (j : ℕ). row_place bytes j ≤ length bytes) moved room))
      (λ l'. rows_back m (suc a) (suc n) k rows (omega arith) len (λ b h. none b (omega arith)) l' room)
    where
      moved : k + suc n ≡ suc k + n
      moved = omega arith

      put : List ℕ
      put = with_row rows (key_in bytes k) (row_in bytes k)

      -- there is room for this row
      here : row_place bytes k + row_length wide ≤ length bytes
      here =
          let least : suc k ≤ k + suc n = omega arith in
          omega (arith, rows-suc wide k, rows-le wide (suc k) (k + suc n) least, room)

      pick : T (eqb (key_in bytes k) a) ⊎ (T (eqb (key_in bytes k) a) → ⊥)
          → ((rows' : List ℕ) → length rows' ≡ row_words → ((b : ℕ) → suc a ≤ b → is_empty (row_at rows' b) ≡ true)
          → Legal events bytes (suc a) n (suc k)
          → rows_from wide (rows_filled bytes rows' n (suc k)) m (suc a) ≡ part bytes (row_place bytes (suc k)) (rows_length wide n))
          → (Legal events bytes (suc a) (suc n) k → rows_from wide (rows_filled bytes rows (suc n) k) m (suc a)
          ≡ part bytes (row_place bytes k) (rows_length wide (suc n)))
          → rows_from wide (rows_filled bytes rows (suc n) k) (suc m) a ≡ part bytes (row_place bytes k) (rows_length wide (suc n))
      pick (inl t) ih stay =
          let same : key_in bytes k ≡ a = eqb→eq (key_in bytes k) a t in
          let first = row_back a n k rows len l same here in
          let rest =
          ih put (length-put rows (key_in bytes k) (row_in bytes k) ∙ len)
          (λ b h. ap is_empty (row-put-other rows (key_in bytes k) (row_in bytes k) b (λ q. omega arith)) ∙ none b (omega arith))
          (subst (λ (x : ℕ). Legal events bytes (suc x) n (suc k)) same l.2) in
          let size : row_length wide + rows_length wide n ≡ rows_length wide (suc n) = omega (arith, rows-suc wide n) in
          meet bytes _ _ (row_place bytes k) (row_length wide) (row_place bytes (suc k)) (rows_length wide n) (omega (arith, rows-suc wide k)) first rest
          ∙ ap (part bytes (row_place bytes k)) size
      pick (inr t) ih stay =
          let up : a < key_in bytes k = lt_of_le-ne l.0 (λ q. t (eqb_of (sym q))) in
          let l' = from-lower events bytes a (suc a) (suc n) k (λ p. up) l in
          ap (λ (r : List ℕ). r ++ rows_from wide (rows_filled bytes rows (suc n) k) m (suc a))
          (row-empty wide a _ (ap is_empty (filled-below events bytes rows (suc a) (suc n) k a l' (omega arith)) ∙ none a (omega arith)))
          ∙ stay l'

no-rows_lem : (b : ℕ) → is_empty (row_at no_rows b) ≡ true
no-rows_lem b = ap is_empty (row-none b) ∙ empty-no_set

no-inside : (events : Set) (b : ℕ) → T (row_within events b (row_at no_rows b))
unfolding row_within
no-inside events b =
    subst (λ (s : Set). T (row_within events b s)) (sym (row-none b))
    (and_i _ _ (within-i no_set events (λ a l t. absurd (false→F (mem-none a) t))) (or_r (mem events b) _ (true→T empty-no_set)))

-- ---- the parts of the file

-- a file opens with its letters
opens-letters : (bytes : List ℕ) → T (opens_file letters bytes) → T (opens_with letters bytes)
unfolding opens_file
opens-letters bytes t = and_l _ _ t

module _ (bytes : List ℕ) (small : Bytes bytes) (ok : Accepted bytes) where
  -- the tables of the four relations, and the form of the file
  abbrev tables : List ℕ
  tables = relations_in bytes relation_count

  abbrev form : Bool
  form = wide_in bytes

  pub legal : (r : ℕ) → r < relation_count → Legal (events_in bytes) bytes 0 (count_in bytes r) (earlier_rows bytes r)
  legal r l =
      subst (λ (k : ℕ). Legal (events_in bytes) bytes 0 (count_in bytes r) k) (add-zero (earlier_rows bytes r))
      (done-legal bytes (earlier_rows bytes r) (whole-low (events_in bytes) (set-whole form bytes small events_place))
      (count_in bytes r) 0 0 (λ p. zero-le)
      (λ i h. ap (judged_row bytes (earlier_rows bytes r)) (zero-add i) ∙ ok.row r l i h))

  module _ (r : ℕ) (l : r < relation_count) where
    room : row_place bytes (earlier_rows bytes r + count_in bytes r) ≤ length bytes
    room = rows-end_lem bytes r (earlier_rows bytes r) (count_in bytes r) l (omega (arith, ok.end)) refl refl

    relation-back : relation_bytes form (table_at tables r)
        ≡ part bytes (row_place bytes (earlier_rows bytes r)) (rows_length form (count_in bytes r))
    unfolding relation_in
    relation-back =
        ap (relation_bytes form) (table-read bytes relation_count r l (omega arith))
        ∙ rows_back (events_in bytes) bytes small (set_holds form bytes small events_place) (most_rows form) 0 (count_in bytes r) (earlier_rows bytes r)
        no_rows (zero-add (most_rows form)) refl (λ b h. no-rows_lem b)
        (legal r l) room

    count-back : row_count form (table_at tables r) ≡ count_in bytes r
    count-back =
        rows_same form (row_count form (table_at tables r)) (count_in bytes r)
        (sym (length-rows form (table_at tables r) (most_rows form) 0)
        ∙ ap length relation-back
        ∙ length_part bytes (row_place bytes (earlier_rows bytes r)) (rows_length form (count_in bytes r))
        (omega (arith, room, rows-add form (earlier_rows bytes r) (count_in bytes r))))

    inside_back : T (rows_within (events_in bytes) (table_at tables r))
    unfolding rows_within relation_in
    inside_back =
        subst (λ (rows : List ℕ). T (rows_within (events_in bytes) rows)) (sym (table-read bytes relation_count r l (omega arith)))
        (every-i width _
        (filled-inside (events_in bytes) bytes no_rows 0 (count_in bytes r) (earlier_rows bytes r) refl (legal r l)
        (λ b h. no-inside (events_in bytes) b)))

    entry-back : entry_bytes form (earlier_rows bytes r) (count_in bytes r) ≡ part bytes (entries_place form + entry_length * r) entry_length
    entry-back =
        let offset : rows_length form (earlier_rows bytes r) ≡ offset_in bytes r = sym (entry_done bytes r (ok.entry r l)).1 in
        let at : ℕ = entries_place form + entry_length * r in
        meet bytes _ _ at number_length (entries_place form + number_length + entry_length * r) number_length (omega arith)
        (ap (little_endian number_length) offset ∙ part-number bytes small at number_length (omega (arith, ok.long)))
        (part-number bytes small (entries_place form + number_length + entry_length * r) number_length (omega (arith, ok.long)))

  -- as many rows are written before a relation as were read
  before_back : (r : ℕ) → r ≤ relation_count → rows_before form tables r ≡ earlier_rows bytes r
  before_back r l = sum-ext (λ k. row_count form (table_at tables k)) (count_in bytes) r (λ k h. count-back k (omega arith))

  -- the letters, the edition and A
  start_back : (letters ++ (edition_for (activities_in bytes) ∷ activities_in bytes ∷ [])) ≡ part bytes 0 events_place
  start_back =
      let head = head_done bytes ok.head in
      meet bytes letters _ 0 2 2 2 refl (sym (opens-is letters bytes (opens-letters bytes head.opens)))
      (meet bytes (edition_for (activities_in bytes) ∷ []) (activities_in bytes ∷ []) 2 1 activities_place 1 refl
      (ap (λ (n : ℕ). n ∷ []) (sym head.edition) ∙ part-one bytes 2 (omega (arith, ok.long)))
      (part-one bytes activities_place (omega (arith, ok.long))))

  head-back : head_bytes form (head_in bytes tables) ≡ part bytes 0 (entries_place form)
  unfolding head_bytes state_bytes
  head-back =
      let n : ℕ = set_length form in
      let executed : ℕ = executed_place form in
      let set : (at : ℕ) → at + n ≤ entries_place form → set_bytes form (set_at form bytes at) ≡ part bytes at n =
      λ at l. set-part form bytes small at (omega (arith, ok.long)) in
      let events = meet bytes _ _ 0 events_place events_place n refl start_back (set events_place (omega arith)) in
      let state =
      meet bytes _ _ executed (n + n) (executed + 2 * n) n (omega arith)
      (meet bytes _ _ executed n (executed + n) n refl (set executed (omega arith)) (set (executed + n) (omega arith)))
      (set (executed + 2 * n) (omega arith)) in
      let size : n + n + n ≡ state_length form = omega arith in
      meet bytes _ _ 0 executed executed (state_length form) (omega arith) events (state ∙ ap (part bytes executed) size)

  entries-back : (r : ℕ) → r ≤ relation_count → entries_bytes form tables r ≡ part bytes (entries_place form) (entry_length * r)
  unfolding entries_bytes
  entries-back zero l = refl
  entries-back (suc r) l =
      let size : entry_length * r + entry_length ≡ entry_length * suc r = omega arith in
      (λ i. entries_bytes form tables r ++ entry_bytes form (before_back r (omega arith) i) (count-back r l i))
      ∙ meet bytes _ _ (entries_place form) (entry_length * r) (entries_place form + entry_length * r) entry_length refl (entries-back r (omega arith)) (entry-back r l)
      ∙ ap (part bytes (entries_place form)) size

  relations-back : (r : ℕ) → r ≤ relation_count → relations_bytes form tables r ≡ part bytes (head_length form) (rows_length form (earlier_rows bytes r))
  unfolding relations_bytes sum_of
  relations-back zero l = ap (part bytes (head_length form)) (sym (rows_none form))
  relations-back (suc r) l =
      meet bytes _ _ (head_length form) (rows_length form (earlier_rows bytes r)) (row_place bytes (earlier_rows bytes r))
      (rows_length form (count_in bytes r)) refl
      (relations-back r (omega arith)) (relation-back r l)
      ∙ ap (part bytes (head_length form)) (sym (rows-add form (earlier_rows bytes r) (count_in bytes r)))

  -- the form that goes with A is the file's
  form-back : wide_for (activities_in bytes) ≡ form
  form-back = ap (λ (n : ℕ). eqb n wide_edition) (sym (head_done bytes ok.head).edition)

  -- an accepted file, read and written again, is that file byte for byte
  pub file-back_lem : bytes_of (graph_in bytes) ≡ bytes
  unfolding bytes_by graph_in
  file-back_lem =
      ap (λ (w : Bool). bytes_by w (graph_in bytes)) form-back
      ∙ meet bytes _ _ 0 (head_length form) (head_length form) (rows_length form (earlier_rows bytes relation_count)) (omega arith)
      (meet bytes _ _ 0 (entries_place form) (entries_place form) (entry_length * relation_count) (omega arith) head-back (entries-back relation_count (omega arith)))
      (relations-back relation_count (omega arith))
      ∙ part-whole bytes (head_length form + rows_length form (earlier_rows bytes relation_count)) (omega (arith, ok.end))

  -- the graph of an accepted file is acceptable
  pub graph-back_lem : judged (graph_in bytes) ≡ Done
  unfolding graph_within relations_within graph_in
  graph-back_lem =
      let head = head_done bytes ok.head in
      judged-at (activities_in bytes) (events_in bytes) (state_in bytes) tables (le-ltb most_activities (activities_in bytes) head.few)
      (T→true _ (and_i _ _ (and_i _ _ head.events head.marking) (every-i relation_count _ inside_back)))

-- From a graph to its file and back: every acceptable graph, written and read again, is that graph. Assumes nothing.
use mathlib.Core.Path.{◌≡◌, refl, sym, ap, ◌∙◌, subst}
use mathlib.Core.Bool.{Bool, true, false}
use mathlib.Core.List.{List, [], ◌++◌, append_assoc, append-nil}
use Prim.Native.Nat.{ℕ, zero, suc, ◌+◌, ◌*◌, ◌≤◌, ◌<◌}
use native.Mathlib.Nat.{zero-add, add-zero, not-suc-le-zero}
use native.Mathlib.Omega.{arith}
use borrow.Author.Tests.{ltb-true, ltb-false}
use lib.Dec.{T, eqb, ltb}
use lib.ListN.{length, drop, length-append}
use lib.Seq.{drop_at}
use Rattle.sets.specs.Tests.{◌and◌, ◌or◌, when◌then◌else◌}
use Rattle.sets.specs.Members.{width, word, those, is_empty, within}
use Rattle.sets.specs.Rows.{row_words, row_at, no_rows}
use Rattle.sets.specs.Tables.{table_at}
use Rattle.octets.specs.Numbers.{little_endian, number_length}
use Rattle.octets.specs.Editions.{narrow_edition, wide_edition, edition_for, edition_in, opens_file}
use Rattle.graphfile.proofs.RowLengths.{set-most, rows-most}
use Rattle.octets.specs.Opens.{opens_with}
use Rattle.sets.specs.declared.set.Set.{Set}
use Rattle.sets.specs.declared.answer.Answer.TheVariants.{Done}
use Rattle.sets.proofs.Tests.{T→true, F→false, false→F, and_l, and_r, split, either}
use Rattle.sets.proofs.Below.{every-e}
use Rattle.sets.proofs.Members.{Whole, within-i, mem-none}
use Rattle.sets.proofs.RowLaws.{row_out, row-none, rows_ext}
use Rattle.sets.proofs.TableLaws.{length-table, tables-ext}
use Rattle.engine.specs.Markings.{state_of}
use Rattle.engine.specs.Relations.{relation_count, head_of, graph_of, in_tables, relations_of}
use Rattle.engine.specs.Enabled.{marked}
use Rattle.engine.proofs.Enabling.{true-marked}
use Rattle.engine.specs.declared.marking.State.{State}
use Rattle.engine.specs.declared.graph.Graph.{Graph}
use Rattle.engine.specs.Judged.{state_within, row_within, rows_within, graph_within, judged}
use Rattle.engine.proofs.Acceptable.{judged-activities, judged-within, judged-true, events-inside, opening-inside, rows_inside}
use Rattle.octets.specs.Sets.{set_length, set_bytes}
use Rattle.octets.proofs.SetLaws.{Holds}
use Rattle.octets.proofs.Parts.{part}
use Rattle.octets.proofs.NumberLaws.{number_read}
use Rattle.octets.proofs.SetLaws.{set-read}
use Rattle.graphfile.specs.Layout.{wide_for, events_place, executed_place, entries_place, entry_length, rows_length, row_place}
use Rattle.octets.specs.Editions.{wide_in}
use Rattle.graphfile.specs.Layout.{head_length, activities_in, events_in, state_in, offset_in, count_in, sum_of, earlier_rows}
use Rattle.graphfile.specs.Refusals.{most_rows, judged_row, judged_file}
use Rattle.graphfile.specs.Held.{relations_in, graph_in}
use Rattle.graphfile.specs.Writing.{rows_for, count_from, row_count, rows_before, entries_bytes, state_bytes, head_bytes}
use Rattle.graphfile.specs.Writing.{relation_bytes, relations_bytes, bytes_by, bytes_of}
use Rattle.graphfile.proofs.Accepted.{Accepted, Head, acceptable, done-head, done-entry}
use Rattle.graphfile.proofs.Places.{sum-ext}
use Rattle.graphfile.proofs.Stores.{length-head, length-entries, length-relations, length-file}
use Rattle.graphfile.proofs.Legal.{Legal, rows_filled, length-rows_filled, relation_in, length-relations_in, table-read, legal-done}
use Rattle.graphfile.proofs.GraphBack.{Held, rows-forth}
use Rattle.graphfile.proofs.WithinForm.{set-held}

-- a graph as every `Graph` of the code is: whole sets, and four tables
pub record Machine (g : Graph) : Type 0 where
  pub events : Whole g.head.events
  pub executed : Whole g.head.opening.state.executed
  pub pending : Whole g.head.opening.state.pending
  pub included : Whole g.head.opening.state.included
  pub enabled : Whole g.head.opening.enabled
  pub many : length g.relations ≡ relation_count * row_words
  pub rows : (r a : ℕ) → Whole (row_at (table_at g.relations r) a)

-- ---- a relation has at most as many rows as activities are gone over

rows-for-le : (s : Set) → rows_for s ≤ 1
unfolding rows_for
rows-for-le s = by (is_empty s)
  where
    by : (b : Bool) → (when b then 0 else 1) ≤ 1
    by true = omega arith
    by false = omega arith

count-le : (rows : List ℕ) (n a : ℕ) → count_from rows n a ≤ n
unfolding count_from
count-le rows zero a = omega arith
count-le rows (suc n) a = omega (arith, rows-for-le (row_at rows a), count-le rows n (suc a))

-- ---- a relation, from where its rows begin

relation-read : (events : Set) (bytes rows tail : List ℕ) (r k : ℕ) → length rows ≡ row_words → ((b : ℕ) → Whole (row_at rows b))
    → ((b : ℕ) → Holds (wide_in bytes) (row_at rows b))
    → Holds (wide_in bytes) events → T (rows_within events rows) → events_in bytes ≡ events → count_in bytes r ≡ row_count (wide_in bytes) rows → earlier_rows bytes r ≡ k
    → drop (row_place bytes k) bytes ≡ relation_bytes (wide_in bytes) rows ++ tail
    → (relation_in bytes r ≡ rows) × ((j : ℕ) → j < count_in bytes r → judged_row bytes (earlier_rows bytes r) j ≡ Done)
unfolding rows_within relation_in
relation-read events bytes rows tail r k many whole holds fits inside he hc hk here =
    let none : Held events bytes rows tail whole holds (λ b l. every-e width (λ a. row_within events a (row_at rows a)) inside b l) fits 0 no_rows =
    record { many = refl; there = λ b l. absurd (not-suc-le-zero l); empty = λ b l. row-none b } in
    let back = rows-forth events bytes rows tail whole holds
    (λ b l. every-e width (λ a. row_within events a (row_at rows a)) inside b l) fits (most_rows (wide_in bytes)) 0 k no_rows (zero-add (most_rows (wide_in bytes))) none here in
    let legal : Legal (events_in bytes) bytes 0 (count_in bytes r) (earlier_rows bytes r + 0) =
    subst (λ (x : ℕ). Legal (events_in bytes) bytes 0 (count_in bytes r) x) (sym (add-zero (earlier_rows bytes r) ∙ hk))
    (subst (λ (n : ℕ). Legal (events_in bytes) bytes 0 n k) (sym hc)
    (subst (λ (s : Set). Legal s bytes 0 (row_count (wide_in bytes) rows) k) (sym he) back.1)) in (
      (λ i. rows_filled bytes no_rows (hc i) (hk i)) ∙ rows_ext _ rows (length-rows_filled bytes no_rows (row_count (wide_in bytes) rows) k) many back.0,
      (λ j l.
          ap (judged_row bytes (earlier_rows bytes r)) (sym (zero-add j))
          ∙ legal-done bytes (earlier_rows bytes r) (count_in bytes r) 0 0 (λ i e. absurd (omega arith)) legal j l),
    )

-- relation r among the relations' rows
relation-within : (wide : Bool) (tables : List ℕ) (n r : ℕ) → r < n
    → (tail : List ℕ) × (relations_bytes wide tables n ≡ relations_bytes wide tables r ++ (relation_bytes wide (table_at tables r) ++ tail))
unfolding relations_bytes
relation-within wide tables zero r l = absurd (not-suc-le-zero l)
relation-within wide tables (suc n) r l =
    either (split (ltb r n))
    (λ t.
    let before = relation-within wide tables n r (ltb-true r n (T→true _ t)) in (
      before.0 ++ relation_bytes wide (table_at tables n),
      ap (λ (x : List ℕ). x ++ relation_bytes wide (table_at tables n)) before.1 ∙ simp append_assoc,
    ))
    (λ f.
    let high = ltb-false r n (F→false _ f) in
    let same : n ≡ r = omega arith in (
      [],
      ap (λ (k : ℕ). relations_bytes wide tables k ++ relation_bytes wide (table_at tables k)) same
          ∙ ap (λ (x : List ℕ). relations_bytes wide tables r ++ x) (sym (append-nil (relation_bytes wide (table_at tables r)))),
    ))

-- ---- the file of a graph, in either form

-- the entries stand where they are written
count-part : (wide : Bool) (g : Graph) (r : ℕ) → r < relation_count
    → part (bytes_by wide g) (entries_place wide + number_length + entry_length * r) number_length ≡ little_endian number_length (row_count wide (table_at g.relations r))
unfolding bytes_by head_bytes state_bytes entries_bytes set_bytes little_endian
count-part true g zero l = refl
count-part true g (suc zero) l = refl
count-part true g (suc (suc zero)) l = refl
count-part true g (suc (suc (suc zero))) l = refl
count-part true g (suc (suc (suc (suc r)))) l = absurd (omega arith)
count-part false g zero l = refl
count-part false g (suc zero) l = refl
count-part false g (suc (suc zero)) l = refl
count-part false g (suc (suc (suc zero))) l = refl
count-part false g (suc (suc (suc (suc r)))) l = absurd (omega arith)

offset-part : (wide : Bool) (g : Graph) (r : ℕ) → r < relation_count
    → part (bytes_by wide g) (entries_place wide + entry_length * r) number_length ≡ little_endian number_length (rows_length wide (rows_before wide g.relations r))
unfolding bytes_by head_bytes state_bytes entries_bytes set_bytes little_endian
offset-part true g zero l = refl
offset-part true g (suc zero) l = refl
offset-part true g (suc (suc zero)) l = refl
offset-part true g (suc (suc (suc zero))) l = refl
offset-part true g (suc (suc (suc (suc r)))) l = absurd (omega arith)
offset-part false g zero l = refl
offset-part false g (suc zero) l = refl
offset-part false g (suc (suc zero)) l = refl
offset-part false g (suc (suc (suc zero))) l = refl
offset-part false g (suc (suc (suc (suc r)))) l = absurd (omega arith)

-- so do the sets
head-part : (wide : Bool) (g : Graph) → part (bytes_by wide g) events_place (set_length wide) ≡ set_bytes wide g.head.events
unfolding bytes_by head_bytes set_bytes little_endian
head-part true g = refl
head-part false g = refl

state-part : (wide : Bool) (g : Graph)
    → (part (bytes_by wide g) (executed_place wide) (set_length wide) ≡ set_bytes wide g.head.opening.state.executed)
    × (part (bytes_by wide g) (executed_place wide + set_length wide) (set_length wide) ≡ set_bytes wide g.head.opening.state.pending)
    × (part (bytes_by wide g) (executed_place wide + 2 * set_length wide) (set_length wide) ≡ set_bytes wide g.head.opening.state.included)
unfolding bytes_by head_bytes state_bytes set_bytes little_endian
state-part true g = (refl, refl, refl)
state-part false g = (refl, refl, refl)

edition-known : (a : ℕ) → T (eqb (edition_for a) narrow_edition or eqb (edition_for a) wide_edition)
unfolding edition_for ◌or◌
edition-known a = by (ltb word a)
  where
    by : (b : Bool) → T (eqb (when b then wide_edition else narrow_edition) narrow_edition or eqb (when b then wide_edition else narrow_edition) wide_edition)
    by true = tt
    by false = tt

module _ (g : Graph) (machine : Machine g) (ok : judged g ≡ Done) where
  abbrev form : Bool
  form = wide_for g.head.activities

  abbrev file : List ℕ
  file = bytes_of g

  -- the number of rows of a relation, and of those before it
  abbrev count : ℕ → ℕ
  count r = row_count form (table_at g.relations r)

  abbrev before : ℕ → ℕ
  before r = rows_before form g.relations r

  within-read : T (graph_within g)
  within-read = judged-within g 0 ok

  -- the file says its form
  edition-read : edition_in file ≡ edition_for g.head.activities
  unfolding bytes_by head_bytes
  edition-read = refl

  form-read : wide_in file ≡ form
  form-read = ap (λ (n : ℕ). eqb n wide_edition) edition-read

  same-inside : (s : Set) → T (within s s)
  same-inside s = within-i s s (λ a l t. t)

  events-read : events_in file ≡ g.head.events
  unfolding bytes_by head_bytes
  events-read =
      set-read form file events_place g.head.events (head-part form g) machine.events (set-held g ok g.head.events machine.events (same-inside g.head.events))

  activities-read : activities_in file ≡ g.head.activities
  unfolding bytes_by head_bytes
  activities-read = refl

  state-read : state_in file ≡ g.head.opening.state
  unfolding bytes_by head_bytes state_within
  state-read =
      let s = g.head.opening.state in
      let inside = opening-inside g within-read in
      let parts = state-part form g in
      λ i.
      state_of
      (set-read form file (executed_place form) s.executed parts.0 machine.executed (set-held g ok s.executed machine.executed (and_l _ _ (and_l _ _ inside))) i)
      (set-read form file (executed_place form + set_length form) s.pending parts.1 machine.pending
      (set-held g ok s.pending machine.pending (and_r _ _ (and_l _ _ inside))) i)
      (set-read form file (executed_place form + 2 * set_length form) s.included parts.2 machine.included
      (set-held g ok s.included machine.included (and_r _ _ inside)) i)

  head_read : Head file
  unfolding bytes_by head_bytes opens_file opens_with ◌and◌
  head_read =
      record {
        opens = edition-known g.head.activities;
        long = omega (arith, length-file form g);
        few = judged-activities g 0 ok;
        edition = refl;
        events = subst (λ (s : Set). T (within s (those (λ a. ltb a g.head.activities)))) (sym events-read)
            (events-inside g within-read);
        marking = subst (λ (s : Set). T (state_within s (state_in file))) (sym events-read)
            (subst (λ (m : State). T (state_within g.head.events m)) (sym state-read) (opening-inside g within-read));
      }

  -- ---- the entries

  few : (r : ℕ) → count r ≤ most_rows form
  few r = count-le (table_at g.relations r) (most_rows form) 0

  before-few : (r : ℕ) → before r ≤ width * r
  unfolding sum_of
  before-few zero = omega arith
  before-few (suc r) = omega (arith, few r, set-most form, before-few r)

  count-read : (r : ℕ) → r < relation_count → count_in file r ≡ count r
  unfolding bytes_by head_bytes
  count-read r l = number_read file number_length (entries_place form + number_length + entry_length * r) (count r) (count-part form g r l) (omega (arith, few r, set-most form))

  offset_read : (r : ℕ) → r < relation_count → offset_in file r ≡ rows_length form (before r)
  unfolding bytes_by head_bytes
  offset_read r l =
      number_read file number_length (entries_place form + entry_length * r) (rows_length form (before r)) (offset-part form g r l)
      (omega (arith, before-few r, rows-most form (before r)))

  before-read : (r : ℕ) → r ≤ relation_count → earlier_rows file r ≡ before r
  before-read r l = sum-ext (count_in file) count r (λ k h. count-read k (omega arith))

  -- ---- the relations

  abbrev front : List ℕ
  front = head_bytes form g.head ++ entries_bytes form g.relations relation_count

  begins : (r : ℕ) (tail : List ℕ)
      → relations_bytes form g.relations relation_count ≡ relations_bytes form g.relations r ++ (relation_bytes form (table_at g.relations r) ++ tail)
      → drop (head_length form + rows_length form (before r)) file ≡ relation_bytes form (table_at g.relations r) ++ tail
  unfolding bytes_by
  begins r tail e =
      let earlier = relations_bytes form g.relations r in
      let rest = relation_bytes form (table_at g.relations r) ++ tail in
      let at : ℕ = head_length form + rows_length form (before r) in
      ap (drop at) (ap (λ (x : List ℕ). front ++ x) e ∙ sym (append_assoc front earlier rest))
      ∙ drop_at (front ++ earlier) rest at
      (simp length-append (omega
      (arith, length-head form g.head, length-entries form g.relations relation_count, length-relations form g.relations r)))

  table-length_lem : (r : ℕ) → r < relation_count → length (table_at g.relations r) ≡ row_words
  table-length_lem r l = length-table relation_count g.relations r machine.many l

  -- the form holds every row
  row-held : (r : ℕ) → r < relation_count → (b : ℕ) → Holds form (row_at (table_at g.relations r) b)
  unfolding rows_within row_within
  row-held r l b =
      either (split (ltb b width))
      (λ t.
      set-held g ok (row_at (table_at g.relations r) b) (machine.rows r b)
      (and_l _ _ (every-e width (λ a. row_within g.head.events a (row_at (table_at g.relations r) a)) (rows_inside g within-read r l) b (ltb-true b width (T→true _ t)))))
      (λ f. subst (Holds form) (row_out (table_at g.relations r) b (ltb-false b width (F→false _ f))) (λ x t. absurd (false→F (mem-none x) t)))

  table-back : (r : ℕ) → r < relation_count
      → (relation_in file r ≡ table_at g.relations r) × ((j : ℕ) → j < count_in file r → judged_row file (earlier_rows file r) j ≡ Done)
  unfolding bytes_by head_bytes
  table-back r l =
      let here = relation-within form g.relations relation_count r l in
      relation-read g.head.events file (table_at g.relations r) here.0 r (before r) (table-length_lem r l) (machine.rows r) (row-held r l)
      (set-held g ok g.head.events machine.events (same-inside g.head.events)) (rows_inside g within-read r l) events-read (count-read r l) (before-read r (omega arith)) (begins r here.0 here.1)

  relations-read : relations_in file relation_count ≡ g.relations
  relations-read =
      tables-ext relation_count (relations_in file relation_count) g.relations (length-relations_in file relation_count) machine.many
      (λ r l. table-read file relation_count r l (omega arith) ∙ (table-back r l).0)

  rows_few : (r : ℕ) → r < relation_count → count_in file r ≤ most_rows form
  rows_few r l = let count-is = count-read r l in omega (arith, few r)

  -- ---- the file is accepted, and holds the graph

  file-accepted : Accepted file
  file-accepted =
      record {
        long = head_read.long;
        head = done-head file head_read;
        entry = λ r l.
            done-entry file r (subst (λ (w : Bool). count_in file r ≤ most_rows w) (sym form-read) (rows_few r l))
            (offset_read r l ∙ (λ i. rows_length (sym form-read i) (sym (before-read r (omega arith)) i)));
        end =
            length-file form g
            ∙ (λ i. head_length (sym form-read i) + rows_length (sym form-read i) (sym (before-read relation_count (omega arith)) i));
        row = λ r l. (table-back r l).1;
      }

  pub file-done : judged_file file ≡ Done
  file-done = acceptable file file-accepted

  -- its opening marking is true, so its enabled activities are those that are worked out
  opening-read : g.head.opening ≡ marked g.head.events (relations_of g) g.head.opening.state
  opening-read = true-marked g.head.events (relations_of g) g.head.opening (judged-true g 0 ok) machine.enabled

  -- an acceptable graph, written and read again, is that graph
  pub graph-forth : graph_in file ≡ g
  unfolding graph_in
  graph-forth =
      (λ i.
      graph_of (head_of (activities-read i) (events-read i) (marked (events-read i) (in_tables (relations-read i)) (state-read i)))
      (relations-read i))
      ∙ (λ i. graph_of (head_of g.head.activities g.head.events (sym opening-read i)) g.relations)

-- Both round trips, of every result that the contracts of `write` and `read` allow; and the file of 01's graph G. Assumes nothing.
use mathlib.Core.Path.{◌≡◌, refl, sym, ap, ap₂, ◌∙◌, subst}
use mathlib.Core.Bool.{Bool, false}
use mathlib.Core.List.{List, [], ◌∷◌, ◌++◌}
use Prim.Native.Nat.{ℕ, ◌+◌, ◌≤◌}
use borrow.Author.Tests.{le-ltb}
use lib.Dec.{eqb, ltb}
use lib.ListN.{length, take, drop}
use lib.Seq.{take_at}
use Rattle.sets.specs.Tests.{◌and◌, ◌or◌, non, when◌then◌else◌}
use Rattle.sets.specs.Members.{bit, bits_of, every_below, is_empty, mem, those}
use Rattle.sets.specs.Rows.{row_at, list_from, rows_of}
use Rattle.sets.specs.Tables.{table_at, tables_of}
use Rattle.sets.specs.Answers.{is_done}
use Rattle.sets.specs.declared.answer.Answer.{Answer}
use Rattle.sets.specs.declared.answer.Answer.TheVariants.{Done, BufferTooSmall}
use Rattle.engine.specs.Enabled.{graph_at}
use Rattle.engine.specs.Markings.{opening_of}
use Rattle.engine.specs.Relations.{relation_count, empty_graph, tables_from}
use Rattle.engine.specs.declared.graph.Graph.{Graph}
use Rattle.engine.specs.Judged.{judged}
use Rattle.graphfile.specs.declared.reader.Reading.{Reading}
use Rattle.graphfile.specs.declared.writer.Written.{Written}
use Rattle.octets.specs.Numbers.{little_endian}
use Rattle.octets.specs.Editions.{edition_for}
use Rattle.octets.specs.Sets.{set_bytes}
use Rattle.graphfile.specs.Layout.{wide_for, head_length, rows_length, sum_of}
use Rattle.graphfile.specs.Refusals.{judged_file}
use Rattle.graphfile.specs.Held.{graph_in, read_of}
use Rattle.graphfile.specs.Writing.{rows_before, row_of, rows_for, rows_from, count_from, entries_bytes, state_bytes, head_bytes}
use Rattle.graphfile.specs.Writing.{row_count, entry_bytes, relation_bytes, relations_bytes}
use Rattle.graphfile.specs.Writing.{bytes_by, bytes_of, judged_write, written_of, file_after}
use Rattle.octets.proofs.Codec.{Bytes}
use Rattle.graphfile.proofs.Accepted.{accepted, done-then}
use Rattle.graphfile.proofs.Stores.{length-file}
use Rattle.graphfile.proofs.FileBack.{file-back_lem, graph-back_lem}
use Rattle.graphfile.proofs.GraphFile.{Machine, file-done, graph-forth}

-- ---- over the definitions

-- every acceptable graph, written and read again, is that graph
pub graph-round : (g : Graph) → Machine g → judged g ≡ Done → (judged_file (bytes_of g) ≡ Done) × (graph_in (bytes_of g) ≡ g)
graph-round g machine ok = (file-done g machine ok, graph-forth g machine ok)

-- every accepted file, read and written again, is that file byte for byte
pub file-round : (bytes : List ℕ) → Bytes bytes → judged_file bytes ≡ Done → bytes_of (graph_in bytes) ≡ bytes
file-round bytes small ok = file-back_lem bytes small (accepted bytes ok)

-- the graph of an accepted file is acceptable
pub file-graph : (bytes : List ℕ) → Bytes bytes → judged_file bytes ≡ Done → judged (graph_in bytes) ≡ Done
file-graph bytes small ok = graph-back_lem bytes small (accepted bytes ok)

-- the length of a file: 52, and 9 for each row below 64 that is not empty; 84, and 17 for each that is not, where A is above 64
pub file-length : (g : Graph)
    → length (bytes_of g) ≡ head_length (wide_for g.head.activities) + rows_length (wide_for g.head.activities) (rows_before (wide_for g.head.activities) g.relations relation_count)
file-length g = length-file (wide_for g.head.activities) g

-- ---- a write that is done, and a read that is

module _ (g : Graph) (before : List ℕ) (ok : judged g ≡ Done) (room : length (bytes_of g) ≤ length before) where
  done : judged_write g (length before) ≡ Done
  unfolding judged_write
  done = done-then ok (ap (λ (b : Bool). when b then BufferTooSmall else Done) (le-ltb (length before) (length (bytes_of g)) room))

  written : written_of g (length before) ≡ record { answer = Done; length = length (bytes_of g) }
  unfolding written_of
  written = ap (λ (a : Answer). record { answer = a; length = when is_done a then length (bytes_of g) else 0 }) done

  buffer : file_after g before ≡ bytes_of g ++ drop (length (bytes_of g)) before
  unfolding file_after
  buffer = ap (λ (a : Answer). when is_done a then bytes_of g ++ drop (length (bytes_of g)) before else before) done

read_done : (bytes : List ℕ) → judged_file bytes ≡ Done → read_of bytes ≡ record { answer = Done; graph = graph_in bytes }
unfolding read_of
read_done bytes ok = ap (λ (a : Answer). record { answer = a; graph = when is_done a then graph_in bytes else empty_graph }) ok

-- ---- the functions: w and after are what `write` gives and leaves, r is what `read` gives

-- every acceptable graph, written into a buffer that is large enough and read again, is that graph
pub written-then-read : (g : Graph) (before after : List ℕ) (w : Written) (r : Reading)
    → Machine g → judged g ≡ Done → length (bytes_of g) ≤ length before
    → w ≡ written_of g (length before) → after ≡ file_after g before → r ≡ read_of (take w.length after)
    → r ≡ record { answer = Done; graph = g }
written-then-read g before after w r machine ok room hw ha hr =
    let long : w.length ≡ length (bytes_of g) = ap (λ (x : Written). x.length) (hw ∙ written g before ok room) in
    let file : take w.length after ≡ bytes_of g =
    ap₂ take long (ha ∙ buffer g before ok room) ∙ take_at (bytes_of g) (drop (length (bytes_of g)) before) (length (bytes_of g)) refl in
    hr
    ∙ ap read_of file
    ∙ read_done (bytes_of g) (graph-round g machine ok).0
    ∙ ap (λ (x : Graph). record { answer = Done; graph = x }) (graph-round g machine ok).1

-- every accepted file, read and written again, is that file byte for byte
pub read-then-written : (bytes before after : List ℕ) (r : Reading) (w : Written)
    → Bytes bytes → r ≡ read_of bytes → r.answer ≡ Done → length bytes ≤ length before
    → w ≡ written_of r.graph (length before) → after ≡ file_after r.graph before
    → (w ≡ record { answer = Done; length = length bytes }) × (after ≡ bytes ++ drop (length bytes) before)
unfolding read_of
read-then-written bytes before after r w small hr ok room hw ha =
    let accept : judged_file bytes ≡ Done = ap (λ (x : Reading). x.answer) (sym hr) ∙ ok in
    let graph : r.graph ≡ graph_in bytes = ap (λ (x : Reading). x.graph) (hr ∙ read_done bytes accept) in
    let same : bytes_of (graph_in bytes) ≡ bytes = file-round bytes small accept in
    let room' = subst (λ (l : List ℕ). length l ≤ length before) (sym same) room in
    let legal = file-graph bytes small accept in (
      hw ∙ ap (λ (g : Graph). written_of g (length before)) graph ∙ written (graph_in bytes) before legal room'
          ∙ ap (λ (l : List ℕ). record { answer = Done; length = length l }) same,
      ha ∙ ap (λ (g : Graph). file_after g before) graph ∙ buffer (graph_in bytes) before legal room'
          ∙ ap (λ (l : List ℕ). l ++ drop (length l) before) same,
    )

-- ---- 01's graph G: C 0 1, 0 2; R 0 2, 1 2; I 0 1; E 0 0, 1 1, 2 1, 2 2

abbrev tables_of_g : List ℕ
tables_of_g =
    tables_from
    (record {
      conditions = λ s t. eqb s 0 and (eqb t 1 or eqb t 2);
      responses = λ s t. (eqb s 0 or eqb s 1) and eqb t 2;
      includes = λ s t. eqb s 0 and eqb t 1;
      excludes = λ s t. ltb s 3 and eqb s t or eqb s 2 and eqb t 1;
    })

abbrev pub example_g : Graph
example_g = graph_at 3 (those (λ a. ltb a 3)) (opening_of (those (λ a. ltb a 3))) tables_of_g

abbrev pub file_of_g : List ℕ
file_of_g =
    66 ∷ 71 ∷ 1 ∷ 3
    ∷ 7 ∷ 0 ∷ 0 ∷ 0 ∷ 0 ∷ 0 ∷ 0 ∷ 0
    ∷ 0 ∷ 0 ∷ 0 ∷ 0 ∷ 0 ∷ 0 ∷ 0 ∷ 0
    ∷ 0 ∷ 0 ∷ 0 ∷ 0 ∷ 0 ∷ 0 ∷ 0 ∷ 0
    ∷ 7 ∷ 0 ∷ 0 ∷ 0 ∷ 0 ∷ 0 ∷ 0 ∷ 0
    ∷ 0 ∷ 0 ∷ 2 ∷ 0
    ∷ 18 ∷ 0 ∷ 2 ∷ 0
    ∷ 36 ∷ 0 ∷ 1 ∷ 0
    ∷ 45 ∷ 0 ∷ 3 ∷ 0
    ∷ 1 ∷ 1 ∷ 0 ∷ 0 ∷ 0 ∷ 0 ∷ 0 ∷ 0 ∷ 0
    ∷ 2 ∷ 1 ∷ 0 ∷ 0 ∷ 0 ∷ 0 ∷ 0 ∷ 0 ∷ 0
    ∷ 0 ∷ 4 ∷ 0 ∷ 0 ∷ 0 ∷ 0 ∷ 0 ∷ 0 ∷ 0
    ∷ 1 ∷ 4 ∷ 0 ∷ 0 ∷ 0 ∷ 0 ∷ 0 ∷ 0 ∷ 0
    ∷ 0 ∷ 2 ∷ 0 ∷ 0 ∷ 0 ∷ 0 ∷ 0 ∷ 0 ∷ 0
    ∷ 0 ∷ 1 ∷ 0 ∷ 0 ∷ 0 ∷ 0 ∷ 0 ∷ 0 ∷ 0
    ∷ 1 ∷ 2 ∷ 0 ∷ 0 ∷ 0 ∷ 0 ∷ 0 ∷ 0 ∷ 0
    ∷ 2 ∷ 6 ∷ 0 ∷ 0 ∷ 0 ∷ 0 ∷ 0 ∷ 0 ∷ 0
    ∷ []

-- computed part by part: at 128 the whole is more than one declaration may take

abbrev counted : ℕ → ℕ
counted k = row_count false (table_at tables_of_g k)

count-0 : counted 0 ≡ 2
unfolding count_from rows_for row_at table_at tables_of rows_of list_from is_empty every_below bit bits_of mem those non ◌and◌ ◌or◌
count-0 = refl

count-1 : counted 1 ≡ 2
unfolding count_from rows_for row_at table_at tables_of rows_of list_from is_empty every_below bit bits_of mem those non ◌and◌ ◌or◌
count-1 = refl

count-2 : counted 2 ≡ 1
unfolding count_from rows_for row_at table_at tables_of rows_of list_from is_empty every_below bit bits_of mem those non ◌and◌ ◌or◌
count-2 = refl

count-3 : counted 3 ≡ 3
unfolding count_from rows_for row_at table_at tables_of rows_of list_from is_empty every_below bit bits_of mem those non ◌and◌ ◌or◌
count-3 = refl

rows-0 : relation_bytes false (table_at tables_of_g 0) ≡ 1 ∷ 1 ∷ 0 ∷ 0 ∷ 0 ∷ 0 ∷ 0 ∷ 0 ∷ 0 ∷ 2 ∷ 1 ∷ 0 ∷ 0 ∷ 0 ∷ 0 ∷ 0 ∷ 0 ∷ 0 ∷ []
unfolding rows_from row_of set_bytes little_endian row_at table_at tables_of rows_of list_from is_empty every_below bit bits_of mem those non ◌and◌ ◌or◌
rows-0 = refl

rows-1 : relation_bytes false (table_at tables_of_g 1) ≡ 0 ∷ 4 ∷ 0 ∷ 0 ∷ 0 ∷ 0 ∷ 0 ∷ 0 ∷ 0 ∷ 1 ∷ 4 ∷ 0 ∷ 0 ∷ 0 ∷ 0 ∷ 0 ∷ 0 ∷ 0 ∷ []
unfolding rows_from row_of set_bytes little_endian row_at table_at tables_of rows_of list_from is_empty every_below bit bits_of mem those non ◌and◌ ◌or◌
rows-1 = refl

rows-2 : relation_bytes false (table_at tables_of_g 2) ≡ 0 ∷ 2 ∷ 0 ∷ 0 ∷ 0 ∷ 0 ∷ 0 ∷ 0 ∷ 0 ∷ []
unfolding rows_from row_of set_bytes little_endian row_at table_at tables_of rows_of list_from is_empty every_below bit bits_of mem those non ◌and◌ ◌or◌
rows-2 = refl

rows-3 : relation_bytes false (table_at tables_of_g 3)
    ≡ 0 ∷ 1 ∷ 0 ∷ 0 ∷ 0 ∷ 0 ∷ 0 ∷ 0 ∷ 0 ∷ 1 ∷ 2 ∷ 0 ∷ 0 ∷ 0 ∷ 0 ∷ 0 ∷ 0 ∷ 0 ∷ 2 ∷ 6 ∷ 0 ∷ 0 ∷ 0 ∷ 0 ∷ 0 ∷ 0 ∷ 0 ∷ []
unfolding rows_from row_of set_bytes little_endian row_at table_at tables_of rows_of list_from is_empty every_below bit bits_of mem those non ◌and◌ ◌or◌
rows-3 = refl

head-of-G : head_bytes false example_g.head
    ≡ 66 ∷ 71 ∷ 1 ∷ 3
    ∷ 7 ∷ 0 ∷ 0 ∷ 0 ∷ 0 ∷ 0 ∷ 0 ∷ 0
    ∷ 0 ∷ 0 ∷ 0 ∷ 0 ∷ 0 ∷ 0 ∷ 0 ∷ 0
    ∷ 0 ∷ 0 ∷ 0 ∷ 0 ∷ 0 ∷ 0 ∷ 0 ∷ 0
    ∷ 7 ∷ 0 ∷ 0 ∷ 0 ∷ 0 ∷ 0 ∷ 0 ∷ 0 ∷ []
unfolding head_bytes state_bytes set_bytes little_endian edition_for bits_of those
head-of-G = refl

entries-of-G : entries_bytes false tables_of_g relation_count ≡ 0 ∷ 0 ∷ 2 ∷ 0 ∷ 18 ∷ 0 ∷ 2 ∷ 0 ∷ 36 ∷ 0 ∷ 1 ∷ 0 ∷ 45 ∷ 0 ∷ 3 ∷ 0 ∷ []
unfolding entries_bytes sum_of rows_length little_endian
entries-of-G =
    λ i.
    [] ++ entry_bytes false 0 (count-0 i) ++ entry_bytes false (0 + count-0 i) (count-1 i) ++ entry_bytes false (0 + count-0 i + count-1 i) (count-2 i)
    ++ entry_bytes false (0 + count-0 i + count-1 i + count-2 i) (count-3 i)

relations-of-G : relations_bytes false tables_of_g relation_count ≡ drop 52 file_of_g
unfolding relations_bytes
relations-of-G = λ i. [] ++ rows-0 i ++ rows-1 i ++ rows-2 i ++ rows-3 i

pub file-of-G_lem : (bytes_of example_g ≡ file_of_g) × (length file_of_g ≡ 124)
unfolding bytes_by edition_for
file-of-G_lem = (λ i. head-of-G i ++ entries-of-G i ++ relations-of-G i, refl)

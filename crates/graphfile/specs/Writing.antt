-- The file of a graph, and what a write gives and leaves in the buffer.
use Rattle.std.specs.Prelude.{◌≡◌, Bool, List, [], ◌∷◌, ◌++◌, ℕ, zero, suc, ◌+◌, ltb, length, drop}
use Rattle.sets.specs.Tests.{when◌then◌else◌}
use Rattle.sets.specs.Members.{is_empty}
use Rattle.sets.specs.Rows.{row_at}
use Rattle.sets.specs.Tables.{table_at}
use Rattle.sets.specs.Answers.{is_done, then_ask}
use Rattle.sets.specs.declared.set.Set.{Set}
use Rattle.sets.specs.declared.answer.Answer.{Answer}
use Rattle.sets.specs.declared.answer.Answer.TheVariants.{Done, BufferTooSmall}
use Rattle.engine.specs.declared.marking.State.{State}
use Rattle.engine.specs.declared.graph.Head.{Head}
use Rattle.engine.specs.declared.graph.Graph.{Graph}
use Rattle.engine.specs.Relations.{relation_count}
use Rattle.engine.specs.Judged.{judged}
use Rattle.graphfile.specs.declared.writer.Written.{Written}
use Rattle.graphfile.specs.declared.counts.Counts.{Counts}
use Rattle.octets.specs.Numbers.{little_endian, number_length}
use Rattle.octets.specs.Sets.{set_bytes}
use Rattle.octets.specs.Editions.{edition_for}
use Rattle.graphfile.specs.Layout.{letters, wide_for, rows_length, sum_of}
use Rattle.graphfile.specs.Refusals.{most_rows}

-- the row of an activity: a key and a set; nothing where the set is empty
unfoldable pub row_of : Bool → ℕ → Set → List ℕ
row_of wide a s = when is_empty s then [] else a ∷ set_bytes wide s

unfoldable pub rows_for : Set → ℕ
rows_for s = when is_empty s then 0 else 1

-- the rows of n activities from a on, so that keys rise; and how many there are
unfoldable pub rows_from : Bool → List ℕ → ℕ → ℕ → List ℕ
rows_from wide rows zero a = []
rows_from wide rows (suc n) a = row_of wide a (row_at rows a) ++ rows_from wide rows n (suc a)

unfoldable pub count_from : List ℕ → ℕ → ℕ → ℕ
count_from rows zero a = 0
count_from rows (suc n) a = rows_for (row_at rows a) + count_from rows n (suc a)

-- a relation's rows in the file, and how many there are: those of the activities that the form has a bit for. In an accepted graph no other has one
abbrev pub relation_bytes : Bool → List ℕ → List ℕ
relation_bytes wide rows = rows_from wide rows (most_rows wide) 0

abbrev pub row_count : Bool → List ℕ → ℕ
row_count wide rows = count_from rows (most_rows wide) 0

-- how many rows the relations before r have; all that the file has where r is 4
abbrev pub rows_before : Bool → List ℕ → ℕ → ℕ
rows_before wide tables r = sum_of (λ k. row_count wide (table_at tables k)) r

-- as the code counts them, once for the file's length and its entries: each relation's rows; and all of them
pub record AreCounts (wide : Bool) (tables : List ℕ) (c : Counts) : Type 0 where
  pub conditions : c.conditions ≡ row_count wide (table_at tables 0)
  pub responses : c.responses ≡ row_count wide (table_at tables 1)
  pub includes : c.includes ≡ row_count wide (table_at tables 2)
  pub excludes : c.excludes ≡ row_count wide (table_at tables 3)

abbrev pub total_of : Counts → ℕ
total_of c = c.conditions + c.responses + c.includes + c.excludes

-- an entry: the bytes of the earlier rows, and the number of rows
abbrev pub entry_bytes : Bool → ℕ → ℕ → List ℕ
entry_bytes wide earlier count = little_endian number_length (rows_length wide earlier) ++ little_endian number_length count

-- the entries of the relations before r
unfoldable pub entries_bytes : Bool → List ℕ → ℕ → List ℕ
entries_bytes wide tables zero = []
entries_bytes wide tables (suc r) = entries_bytes wide tables r ++ entry_bytes wide (rows_before wide tables r) (row_count wide (table_at tables r))

-- the four entries by such counts
abbrev pub entries_for : Bool → Counts → List ℕ
entries_for wide c =
    entry_bytes wide 0 c.conditions ++ entry_bytes wide c.conditions c.responses
    ++ entry_bytes wide (c.conditions + c.responses) c.includes
    ++ entry_bytes wide (c.conditions + c.responses + c.includes) c.excludes

-- the rows of the relations before r
unfoldable pub relations_bytes : Bool → List ℕ → ℕ → List ℕ
relations_bytes wide tables zero = []
relations_bytes wide tables (suc r) = relations_bytes wide tables r ++ relation_bytes wide (table_at tables r)

-- executed, pending, included
unfoldable pub state_bytes : Bool → State → List ℕ
state_bytes wide s = set_bytes wide s.executed ++ set_bytes wide s.pending ++ set_bytes wide s.included

-- the letters, the edition, A and the four sets
unfoldable pub head_bytes : Bool → Head → List ℕ
head_bytes wide h = letters ++ (edition_for h.activities ∷ h.activities ∷ []) ++ set_bytes wide h.events ++ state_bytes wide h.opening.state

-- the whole file, in either form
unfoldable pub bytes_by : Bool → Graph → List ℕ
bytes_by wide g = head_bytes wide g.head ++ entries_bytes wide g.relations relation_count ++ relations_bytes wide g.relations relation_count

-- in the form that goes with A
abbrev pub bytes_of : Graph → List ℕ
bytes_of g = bytes_by (wide_for g.head.activities) g

-- so many bytes for the file: 7 where they are too few
abbrev pub judged_room : Graph → ℕ → Answer
judged_room g space = when ltb space (length (bytes_of g)) then BufferTooSmall else Done

-- a write into so many bytes: 3, 5 and 16 for the graph, then 7
unfoldable pub judged_write : Graph → ℕ → Answer
judged_write g space = then_ask (judged g) (judged_room g space)

-- what goes with an answer: the file's length; 0 where refused
abbrev pub written_for : Answer → Graph → Written
written_for a g = record { answer = a; length = when is_done a then length (bytes_of g) else 0 }

-- and the buffer then: the file, then what was there; all as it was where refused
abbrev pub buffer_for : Answer → Graph → List ℕ → List ℕ
buffer_for a g buffer = when is_done a then bytes_of g ++ drop (length (bytes_of g)) buffer else buffer

-- a write, and the buffer after it
unfoldable pub written_of : Graph → ℕ → Written
written_of g space = written_for (judged_write g space) g

unfoldable pub file_after : Graph → List ℕ → List ℕ
file_after g buffer = buffer_for (judged_write g (length buffer)) g buffer

-- the same where nobody judges the graph
unfoldable pub unjudged_of : Graph → ℕ → Written
unjudged_of g space = written_for (judged_room g space) g

unfoldable pub unjudged_after : Graph → List ℕ → List ℕ
unjudged_after g buffer = buffer_for (judged_room g (length buffer)) g buffer

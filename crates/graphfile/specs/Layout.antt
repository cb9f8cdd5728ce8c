-- What stands where in a graph file (01, "Two files, contents first": Graph; 02, 10/12: files of edition 2 have wide sets).
use Rattle.std.specs.Prelude.{Bool, List, [], ◌∷◌, ℕ, zero, suc, ◌+◌, ◌*◌, eqb, get_or}
use Rattle.sets.specs.declared.set.Set.{Set}
use Rattle.engine.specs.declared.marking.State.{State}
use Rattle.engine.specs.declared.marking.Marking.{Marking}
use Rattle.engine.specs.declared.graph.Head.{Head}
use Rattle.engine.specs.Markings.{state_of, marking_of}
use Rattle.engine.specs.Relations.{relation_count, head_of}
use Rattle.engine.specs.Enabled.{graph_at}
use Rattle.octets.specs.Numbers.{number_at, number_length}
use Rattle.octets.specs.Sets.{set_length, set_at}
use Rattle.octets.specs.Editions.{wide_edition, edition_for, wide_in}

-- the two letters, B and G; the edition comes after them
abbrev pub letters : List ℕ
letters = 66 ∷ 71 ∷ []

-- the file of a graph has wide sets by its A
abbrev pub wide_for : ℕ → Bool
wide_for a = eqb (edition_for a) wide_edition

-- then A; then four sets: events, executed, pending, included
abbrev pub activities_place : ℕ
activities_place = 3

abbrev pub events_place : ℕ
events_place = 4

abbrev pub executed_place : Bool → ℕ
executed_place wide = events_place + set_length wide

-- how many bytes executed, pending and included have
abbrev pub state_length : Bool → ℕ
state_length wide = 3 * set_length wide

-- then an entry for each relation: an offset and a number of rows
abbrev pub entries_place : Bool → ℕ
entries_place wide = executed_place wide + state_length wide

abbrev pub entry_length : ℕ
entry_length = 2 * number_length

-- all that stands before the rows: 52 bytes, or 84
abbrev pub head_length : Bool → ℕ
head_length wide = entries_place wide + entry_length * relation_count

-- a key and a set: 9 bytes, or 17
abbrev pub row_length : Bool → ℕ
row_length wide = 1 + set_length wide

-- so many rows
unfoldable pub rows_length : Bool → ℕ → ℕ
rows_length wide n = row_length wide * n

-- A
abbrev pub activities_in : List ℕ → ℕ
activities_in bytes = get_or bytes activities_place 0

abbrev pub events_in : List ℕ → Set
events_in bytes = set_at (wide_in bytes) bytes events_place

-- executed, pending, included: all that a file holds of its marking
abbrev pub state_at : Bool → List ℕ → ℕ → State
state_at wide bytes at = state_of (set_at wide bytes at) (set_at wide bytes (at + set_length wide)) (set_at wide bytes (at + 2 * set_length wide))

abbrev pub state_in : List ℕ → State
state_in bytes = state_at (wide_in bytes) bytes (executed_place (wide_in bytes))

-- a marking by itself: executed, pending, included, enabled (02, 6/12)
abbrev pub marking_at : Bool → List ℕ → ℕ → Marking
marking_at wide bytes at = marking_of (state_at wide bytes at) (set_at wide bytes (at + state_length wide))

-- A, the events and such a marking from a place on
abbrev pub head_at : Bool → List ℕ → ℕ → Head
head_at wide bytes at = head_of (get_or bytes at 0) (set_at wide bytes (at + 1)) (marking_at wide bytes (at + (1 + set_length wide)))

-- A, the events and the marking of a file whose relations are these tables
abbrev pub head_in : List ℕ → List ℕ → Head
head_in bytes tables = (graph_at (activities_in bytes) (events_in bytes) (state_in bytes) tables).head

-- entry r: an offset, then the number of rows
abbrev pub offset_in : List ℕ → ℕ → ℕ
offset_in bytes r = number_at number_length bytes (entries_place (wide_in bytes) + entry_length * r)

abbrev pub count_in : List ℕ → ℕ → ℕ
count_in bytes r = number_at number_length bytes (entries_place (wide_in bytes) + number_length + entry_length * r)

-- f 0 + f 1 + .. : n numbers
unfoldable pub sum_of : (ℕ → ℕ) → ℕ → ℕ
sum_of f zero = 0
sum_of f (suc n) = sum_of f n + f n

-- the rows of the relations before r; of all four where r is 4
abbrev pub earlier_rows : List ℕ → ℕ → ℕ
earlier_rows bytes r = sum_of (count_in bytes) r

-- where row k of the file stands, counted over the four relations
abbrev pub row_place : List ℕ → ℕ → ℕ
row_place bytes k = head_length (wide_in bytes) + rows_length (wide_in bytes) k

-- what stands there: a key, then a set
abbrev pub key_in : List ℕ → ℕ → ℕ
key_in bytes k = get_or bytes (row_place bytes k) 0

abbrev pub row_in : List ℕ → ℕ → Set
row_in bytes k = set_at (wide_in bytes) bytes (row_place bytes k + 1)

-- where the last row ends
abbrev pub end_of : List ℕ → ℕ
end_of bytes = row_place bytes (earlier_rows bytes relation_count)

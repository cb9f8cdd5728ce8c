-- When bytes are no graph file, and which number they get (01, "Numbers given back", the order for a graph file; 02, 10/12).
use Rattle.std.specs.Prelude.{Bool, true, false, List, ℕ, zero, suc, ◌+◌, ◌*◌, eqb, ltb, length}
use Rattle.sets.specs.Tests.{◌or◌, non, when◌then◌else◌}
use Rattle.sets.specs.Members.{mem, those, is_empty, within}
use Rattle.sets.specs.declared.set.Set.{Set}
use Rattle.sets.specs.declared.answer.Answer.{Answer}
use Rattle.sets.specs.declared.answer.Answer.TheVariants.{Done, TooShort, WrongLetters, AboveLimit, WrongOffset, Outside, BadRow}
use Rattle.engine.specs.Judged.{state_within}
use Rattle.engine.specs.Relations.{relation_count}
use Rattle.sets.specs.Answers.{then_ask, first_refusal}
use Rattle.octets.specs.Sets.{set_length}
use Rattle.octets.specs.Editions.{edition_in, opens_file, beyond}
use Rattle.graphfile.specs.Layout.{letters, head_length, rows_length, activities_in, events_in, state_in, offset_in, count_in, earlier_rows, key_in, row_in, end_of}
use Rattle.octets.specs.Editions.{wide_in}

-- the limit on a relation's rows, whatever A is: 64 in edition 1, 128 in edition 2
abbrev pub most_rows : Bool → ℕ
most_rows wide = 8 * set_length wide

-- 5 for an event not below A, then for the marking, of which a file holds executed, pending and included
unfoldable pub judged_sets : List ℕ → Answer
judged_sets bytes =
    when non (within (events_in bytes) (those (λ a. ltb a (activities_in bytes)))) then Outside
    else when non (state_within (events_in bytes) (state_in bytes)) then Outside
    else Done

-- 2; 1 again under the length of the head in edition 2; 3 for A with the edition; then 5
unfoldable pub judged_head : List ℕ → Answer
judged_head bytes =
    when non (opens_file letters bytes) then WrongLetters
    else when ltb (length bytes) (head_length (wide_in bytes)) then TooShort
    else when beyond (edition_in bytes) (activities_in bytes) then AboveLimit
    else judged_sets bytes

-- an entry: 3 for its number of rows, then 4 for its offset, which is in bytes from the first row on
unfoldable pub judged_entry : List ℕ → ℕ → Answer
judged_entry bytes r =
    when ltb (most_rows (wide_in bytes)) (count_in bytes r) then AboveLimit
    else when non (eqb (offset_in bytes r) (rows_length (wide_in bytes) (earlier_rows bytes r))) then WrongOffset
    else Done

-- the end: 1 where bytes are missing, 4 where there are more
unfoldable pub judged_end : List ℕ → Answer
judged_end bytes =
    when ltb (length bytes) (end_of bytes) then TooShort
    else when ltb (end_of bytes) (length bytes) then WrongOffset
    else Done

-- all that stands before the rows: 1 under the length of the head in edition 1; the head; entry by entry; the end
unfoldable pub judged_before_rows : List ℕ → Answer
judged_before_rows bytes =
    when ltb (length bytes) (head_length false) then TooShort
    else then_ask (judged_head bytes) (then_ask (first_refusal relation_count (judged_entry bytes)) (judged_end bytes))

-- the key of a relation's row j is above the one before; a relation's first row has none before it
unfoldable pub rises : List ℕ → ℕ → ℕ → Bool
rises bytes first zero = true
rises bytes first (suc j) = ltb (key_in bytes (first + j)) (key_in bytes (first + suc j))

-- a row of a key and a set, whose key is above the one before or not: 5 where the key is no event or the set is outside the events,
-- then 6 where the set is empty or the key not above
unfoldable pub row_answer : Set → ℕ → Set → Bool → Answer
row_answer events key row above =
    when non (mem events key) or non (within row events) then Outside
    else when is_empty row or non above then BadRow
    else Done

-- row j of the relation whose first row is given
abbrev pub judged_row : List ℕ → ℕ → ℕ → Answer
judged_row bytes first j = row_answer (events_in bytes) (key_in bytes (first + j)) (row_in bytes (first + j)) (rises bytes first j)

-- a relation, row by row
unfoldable pub judged_relation : List ℕ → ℕ → Answer
judged_relation bytes r = first_refusal (count_in bytes r) (judged_row bytes (earlier_rows bytes r))

-- the whole file: what stands before the rows, then relation by relation
unfoldable pub judged_file : List ℕ → Answer
judged_file bytes = then_ask (judged_before_rows bytes) (first_refusal relation_count (judged_relation bytes))

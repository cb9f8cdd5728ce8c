-- Months put together (02, 12/12): the numbers of skelfora_tally and skelfora_tally_join are those of months' `fill_answer` and `join_answer`, and
-- their buffers are `filled_of` and `joined_of`. Here is what skelfora_tally_relations gives.
use Rattle.std.specs.Prelude.{false, List, ◌∷◌, ◌++◌, ℕ, ◌*◌, ◌/◌, ◌%◌, ltb, length, drop}
use Rattle.sets.specs.Tests.{when◌then◌else◌}
use Rattle.sets.specs.Rows.{row_at}
use Rattle.sets.specs.Tables.{table_at}
use Rattle.sets.specs.Answers.{number_of, is_done, then_ask}
use Rattle.sets.specs.declared.set.Set.{Set}
use Rattle.sets.specs.declared.answer.Answer.{Answer}
use Rattle.sets.specs.declared.answer.Answer.TheVariants.{Done, BufferTooSmall}
use Rattle.octets.specs.Sets.{set_bytes}
use Rattle.engine.specs.Relations.{relation_count}
use Rattle.rules.specs.declared.Profile.{Profile}
use Rattle.months.specs.declared.reading.Known.{Known}
use Rattle.months.specs.Layout.{tally_width, sets_from}
use Rattle.months.specs.Months.{known_of}

-- A, the events, and 64 rows of 8 bytes for each of the four relations
abbrev pub known_length : ℕ
known_length = 2057

-- row i of all: of relation i / 64 that of activity i % 64
abbrev pub row_of_all : List ℕ → ℕ → Set
row_of_all tables i = row_at (table_at tables (i / tally_width)) (i % tally_width)

-- the rows of conditions, responses, includes, excludes, as bytes; a condition stands in the row of its target
abbrev pub rows_bytes : List ℕ → List ℕ
rows_bytes tables = sets_from (relation_count * tally_width) 0 (row_of_all tables)

unfoldable pub known_bytes : Known → List ℕ
known_bytes k = k.activities ∷ (set_bytes false k.events ++ rows_bytes k.relations)

-- 7 and 3 of the tally, then 7 where there is too little room
unfoldable pub relations_answer : List ℕ → Profile → ℕ → Answer
relations_answer tally p space = then_ask (known_of tally p).answer (when ltb space known_length then BufferTooSmall else Done)

abbrev pub relations_number : List ℕ → ℕ → Profile → ℕ
relations_number tally space p = number_of (relations_answer tally p space)

unfoldable pub relations_buffer : List ℕ → Profile → List ℕ → List ℕ
relations_buffer tally p buffer =
    when is_done (relations_answer tally p (length buffer)) then known_bytes (known_of tally p) ++ drop known_length buffer else buffer

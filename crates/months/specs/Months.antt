-- What `fill`, `join` and `relations` answer for any bytes, and what they leave in the bytes that are lent (02, 12/12).
use Rattle.std.specs.Prelude.{Bool, List, [], ◌∷◌, ◌++◌, ℕ, max, ltb, length, take, drop, set}
use Rattle.std.specs.Int.Bits.{bit_or}
use Rattle.sets.specs.Tests.{◌or◌, when◌then◌else◌}
use Rattle.sets.specs.Members.{no_set}
use Rattle.sets.specs.Tables.{no_tables}
use Rattle.sets.specs.Answers.{is_done, then_ask}
use Rattle.sets.specs.declared.answer.Answer.{Answer}
use Rattle.sets.specs.declared.answer.Answer.TheVariants.{Done, AboveLimit, BufferTooSmall}
use Rattle.engine.specs.Relations.{relation_count}
use Rattle.calllog.specs.Logs.{log_of}
use Rattle.rules.specs.declared.Profile.{Profile}
use Rattle.months.specs.declared.reading.Known.{Known}
use Rattle.months.specs.Layout.{tally_width, tally_length, activities_in, set_in}
use Rattle.months.specs.Tallies.{tally_of}
use Rattle.months.specs.Readings.{tables_in, between_in, relations_from}

-- 7 where the buffer is too small, then 3 where A is above a tally's limit
abbrev pub room : Bool → Bool → Answer
room small above = when small then BufferTooSmall else when above then AboveLimit else Done

-- the bytes are too few for a tally
abbrev pub too_few : List ℕ → Bool
too_few tally = ltb (length tally) tally_length

-- A is above 64
abbrev pub too_many : ℕ → Bool
too_many A = ltb tally_width A

-- ---- fill: the log's own refusals come first

unfoldable pub fill_answer : List ℕ → List ℕ → Answer
fill_answer log tally = then_ask (log_of log).answer (room (too_few tally) (too_many (log_of log).activities))

-- the first 36,864 bytes are the tally of the log's A and traces; the rest, and all where it is refused, stays
unfoldable pub filled_of : List ℕ → List ℕ → List ℕ
filled_of log tally =
    when is_done (fill_answer log tally) then tally_of (log_of log).activities (log_of log).traces ++ drop tally_length tally else tally

-- ---- join, into the first

unfoldable pub join_answer : List ℕ → List ℕ → Answer
join_answer tally other = room (too_few tally or too_few other) (too_many (activities_in tally) or too_many (activities_in other))

-- byte by byte, the bits of either; as many as both have
unfoldable pub bytes_or : List ℕ → List ℕ → List ℕ
bytes_or [] ys = []
bytes_or (x ∷ xs) [] = []
bytes_or (x ∷ xs) (y ∷ ys) = bit_or x y ∷ bytes_or xs ys

-- two tallies in one: the bits of either, but for A, which is the larger
unfoldable pub joined : List ℕ → List ℕ → List ℕ
joined tally other = set (bytes_or tally other) 0 (max (activities_in tally) (activities_in other))

unfoldable pub joined_of : List ℕ → List ℕ → List ℕ
joined_of tally other =
    when is_done (join_answer tally other) then joined (take tally_length tally) (take tally_length other) ++ drop tally_length tally else tally

-- ---- relations, after step 8; nothing beside the number where it is refused

unfoldable pub known_answer : List ℕ → Answer
known_answer tally = room (too_few tally) (too_many (activities_in tally))

unfoldable pub known_of : List ℕ → Profile → Known
known_of tally p =
    when is_done (known_answer tally) then record {
      answer = Done;
      activities = activities_in tally;
      events = set_in tally 1;
      relations = relations_from (set_in tally 1) (tables_in tally) (between_in tally) p;
    }
    else record { answer = known_answer tally; activities = 0; events = no_set; relations = no_tables relation_count }

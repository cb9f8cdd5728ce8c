-- The summary of a log in a profile (02, 3/12): for each event, how many other events it is a condition for and how many others it
-- excludes.
use Rattle.std.specs.Prelude.{List, ◌++◌, ℕ, ◌*◌, eqb, ltb, length, drop}
use Rattle.sets.specs.Tests.{◌and◌, non, when◌then◌else◌}
use Rattle.sets.specs.Members.{width, count_below}
use Rattle.sets.specs.Rows.{Relation, list_from}
use Rattle.sets.specs.Answers.{is_done, then_ask}
use Rattle.sets.specs.declared.answer.Answer.{Answer}
use Rattle.sets.specs.declared.answer.Answer.TheVariants.{Done, BufferTooSmall}
use Rattle.calllog.specs.Logs.{log_of}
use Rattle.rules.specs.declared.Profile.{Profile}
use Rattle.rules.specs.Mining.{mined}
use Rattle.report.specs.Lent.{most_in}

-- how many pairs s to t there are with t other than s
abbrev pub others_of : Relation → ℕ → ℕ
others_of r s = count_below width (λ t. r s t and non (eqb t s))

-- the counts of the first n activities, one byte each. What is no event stands in no pair: its count is 0
unfoldable pub counts_of : ℕ → Relation → List ℕ
counts_of n r = list_from n 0 (others_of r)

-- first those of the conditions, then those of the excludes, of as many activities as a log of its edition may have (02, 10/12)
unfoldable pub summary_of : List ℕ → Profile → List ℕ
summary_of bytes p =
    counts_of (most_in bytes) (mined (log_of bytes).traces p).conditions ++ counts_of (most_in bytes) (mined (log_of bytes).traces p).excludes

abbrev pub summary_length : List ℕ → ℕ
summary_length bytes = 2 * most_in bytes

-- ---- what `write_summary` gives and leaves in a buffer of so many bytes: the log's refusals, then 7

unfoldable pub summary_answer : List ℕ → ℕ → Answer
summary_answer bytes room = then_ask (log_of bytes).answer (when ltb room (summary_length bytes) then BufferTooSmall else Done)

-- the summary, then what was there; no byte changed where it is refused
unfoldable pub summary_after : List ℕ → Profile → List ℕ → List ℕ
summary_after bytes p buffer =
    when is_done (summary_answer bytes (length buffer)) then summary_of bytes p ++ drop (summary_length bytes) buffer else buffer

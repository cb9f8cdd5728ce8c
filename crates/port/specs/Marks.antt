-- Marks, and all replays of a log at once, on the graph of a file (02, 9/12).
use Rattle.std.specs.Prelude.{List, ℕ, ◌+◌, ◌*◌, ◌%◌, ◌^◌}
use Rattle.sets.specs.Tests.{when◌then◌else◌}
use Rattle.sets.specs.Answers.{number_of, is_done, then_ask}
use Rattle.sets.specs.declared.answer.Answer.{Answer}
use Rattle.calllog.specs.Logs.{log_of}
use Rattle.graphfile.specs.Held.{read_of}
use Rattle.marks.specs.Counts.{no_counts}
use Rattle.marks.specs.Marks.{marks_of}
use Rattle.marks.specs.Replays.{replays_of, replays_after}
use Rattle.marks.specs.declared.marks.Marked.{Marked}
use Rattle.report.specs.Marks.{marked_of}
use Rattle.port.specs.Port.{packed_of}

-- what is asked before there is a graph: the log's refusals, then the file's
abbrev pub before_marks : List ℕ → List ℕ → Answer
before_marks file log = then_ask (log_of log).answer (read_of file).answer

abbrev pub refused_marks : Answer → Marked
refused_marks a = record { answer = a; counts = no_counts }

-- these, then what the marks on the file's graph give
unfoldable pub marks_in : List ℕ → List ℕ → List ℕ → Marked
marks_in file log labels =
    when is_done (before_marks file log) then marks_of (read_of file).graph log labels else refused_marks (before_marks file log)

-- two counts, 12 bits each
unfoldable pub two_counts : ℕ → ℕ → ℕ
two_counts low high = low % 2 ^ 12 + 2 ^ 12 * (high % 2 ^ 12)

-- skelfora_marks: the number, and above it the four counts in the order of the paper's table
unfoldable pub counts_number : Marked → ℕ
counts_number m =
    number_of m.answer + 2 ^ 8 * two_counts m.counts.true_positives m.counts.false_positives
    + 2 ^ 32 * two_counts m.counts.false_negatives m.counts.true_negatives

-- skelfora_marks_text and skelfora_guesses_text: the marks' number, or 7, and 256 times the text's length; their buffer is report's
-- `marked_after`
abbrev pub text_number : Marked → ℕ → ℕ
text_number m room = packed_of (marked_of m room).answer (marked_of m room).length

-- skelfora_replays: the log's refusals, the file's, then those of the replays; the number of bytes written
unfoldable pub replays_number : List ℕ → List ℕ → ℕ → ℕ
replays_number file log room =
    when is_done (before_marks file log) then
    packed_of (replays_of (read_of file).graph log room).answer (replays_of (read_of file).graph log room).traces
    else packed_of (before_marks file log) 0

unfoldable pub replays_buffer : List ℕ → List ℕ → List ℕ → List ℕ
replays_buffer file log buffer =
    when is_done (before_marks file log) then replays_after (read_of file).graph log buffer else buffer

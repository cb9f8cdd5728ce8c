-- The marks of a graph on a log with labels, and of a student's guesses (02, 9/12).
use Rattle.std.specs.Prelude.{Bool, List, [], ℕ, ltb, length, get_or}
use Rattle.sets.specs.Tests.{◌and◌, when◌then◌else◌}
use Rattle.sets.specs.Sizes.{most_traces}
use Rattle.sets.specs.Answers.{is_done, then_ask}
use Rattle.sets.specs.declared.answer.Answer.{Answer}
use Rattle.sets.specs.declared.answer.Answer.TheVariants.{AboveLimit}
use Rattle.engine.specs.Judged.{judged}
use Rattle.engine.specs.Replay.{replay_of}
use Rattle.engine.specs.declared.graph.Graph.{Graph}
use Rattle.engine.specs.declared.replay.Replayed.{Replayed}
use Rattle.calllog.specs.Logs.{log_of}
use Rattle.marks.specs.declared.counts.Counts.{Counts}
use Rattle.marks.specs.declared.marks.Marked.{Marked}
use Rattle.marks.specs.Labels.{says_yes, judged_labels}
use Rattle.marks.specs.Counts.{no_counts, counts_of}

-- "The graph's verdict is yes where replay is done and accepting." A trace with an activity that the graph lacks is refused with 8: a no
unfoldable pub is_yes : Replayed → Bool
is_yes r = is_done r.answer and r.accepting

-- trace k of a log, and the verdict on it
abbrev pub trace_number : List ℕ → ℕ → List ℕ
trace_number log k = get_or (log_of log).traces k []

abbrev pub verdict_of : Graph → List ℕ → ℕ → Bool
verdict_of g log k = is_yes (replay_of g (trace_number log k))

-- the counts beside done, and nothing beside a refusal
abbrev pub marked_by : Answer → Counts → Marked
marked_by a c = record { answer = a; counts = when is_done a then c else no_counts }

-- ---- a graph

-- the log's refusals, then the graph's
abbrev pub judged_both : Graph → List ℕ → Answer
judged_both g log = then_ask (log_of log).answer (judged g)

-- then 18 and 19
unfoldable pub judged_marks : Graph → List ℕ → List ℕ → Answer
judged_marks g log labels = then_ask (judged_both g log) (judged_labels (length (log_of log).traces) labels)

unfoldable pub marks_of : Graph → List ℕ → List ℕ → Marked
marks_of g log labels = marked_by (judged_marks g log labels) (counts_of (length (log_of log).traces) (verdict_of g log) (says_yes labels))

-- ---- guesses in place of the verdicts, with no log: the labels stand for its traces

-- 3 for more labels than a log has traces; 18 and 19 for the labels, then for the guesses
unfoldable pub judged_guesses : List ℕ → List ℕ → Answer
judged_guesses guesses labels =
    when ltb most_traces (length labels) then AboveLimit
    else then_ask (judged_labels (length guesses) labels) (judged_labels (length labels) guesses)

unfoldable pub guesses_of : List ℕ → List ℕ → Marked
guesses_of guesses labels = marked_by (judged_guesses guesses labels) (counts_of (length labels) (says_yes guesses) (says_yes labels))

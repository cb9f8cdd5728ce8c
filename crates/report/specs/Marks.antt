-- The text of marks (02, 9/12): a line for each count of the confusion table, in the paper's letters, then a line for each measure.
use Rattle.std.specs.Prelude.{List, [], ◌∷◌, ◌++◌, ℕ, eqb, ltb, length, drop}
use Rattle.sets.specs.Tests.{when◌then◌else◌}
use Rattle.sets.specs.Answers.{is_done}
use Rattle.sets.specs.declared.answer.Answer.TheVariants.{BufferTooSmall}
use Rattle.marks.specs.Counts.{precision_of, recall_of, accuracy_of}
use Rattle.marks.specs.declared.counts.Counts.{Counts}
use Rattle.marks.specs.declared.counts.Measure.{Measure}
use Rattle.marks.specs.declared.marks.Marked.{Marked}
use Rattle.report.specs.declared.writer.Listed.{Listed}
use Rattle.report.specs.Lines.{decimal, line}
use Rattle.report.specs.Listing.{refused_line}

-- ---- the words

-- "TP", "FP", "FN", "TN"
abbrev pub TP : List ℕ
TP = 84 ∷ 80 ∷ []

abbrev pub FP : List ℕ
FP = 70 ∷ 80 ∷ []

abbrev pub FN : List ℕ
FN = 70 ∷ 78 ∷ []

abbrev pub TN : List ℕ
TN = 84 ∷ 78 ∷ []

-- "precision"
abbrev pub precision_word : List ℕ
precision_word = 112 ∷ 114 ∷ 101 ∷ 99 ∷ 105 ∷ 115 ∷ 105 ∷ 111 ∷ 110 ∷ []

-- "recall"
abbrev pub recall_word : List ℕ
recall_word = 114 ∷ 101 ∷ 99 ∷ 97 ∷ 108 ∷ 108 ∷ []

-- "accuracy"
abbrev pub accuracy_word : List ℕ
accuracy_word = 97 ∷ 99 ∷ 99 ∷ 117 ∷ 114 ∷ 97 ∷ 99 ∷ 121 ∷ []

-- "none"
abbrev pub none_word : List ℕ
none_word = 110 ∷ 111 ∷ 110 ∷ 101 ∷ []

-- ---- the lines

unfoldable pub four_lines : ℕ → ℕ → ℕ → ℕ → List ℕ
four_lines tp fp fn tn =
    line (TP ∷ decimal tp ∷ []) ++ line (FP ∷ decimal fp ∷ []) ++ line (FN ∷ decimal fn ∷ []) ++ line (TN ∷ decimal tn ∷ [])

abbrev pub count_lines : Counts → List ℕ
count_lines c = four_lines c.true_positives c.false_positives c.false_negatives c.true_negatives

-- "two whole numbers each, not reduced and not rounded; a zero denominator prints as `none`"
unfoldable pub measure_line : List ℕ → Measure → List ℕ
measure_line word m =
    when eqb m.whole 0 then line (word ∷ none_word ∷ []) else line (word ∷ decimal m.part ∷ decimal m.whole ∷ [])

unfoldable pub measure_lines : Measure → Measure → Measure → List ℕ
measure_lines p r a = measure_line precision_word p ++ measure_line recall_word r ++ measure_line accuracy_word a

-- no number of a log's marks is above 1,024, so `decimal`'s five figures are more than enough; of counts put together by hand it gives the
-- last five
unfoldable pub marks_text : Counts → List ℕ
marks_text c = count_lines c ++ measure_lines (precision_of c) (recall_of c) (accuracy_of c)

-- the marks, or the one line of a refusal, as in the listing
unfoldable pub marked_text : Marked → List ℕ
marked_text m = when is_done m.answer then marks_text m.counts else refused_line m.answer

-- no text is longer: 9 bytes for each count, 22 for precision, 19 for recall, 21 for accuracy, with five figures a number
abbrev pub longest_marks : ℕ
longest_marks = 98

-- ---- what `write_marks` gives and leaves in a buffer of so many bytes: 7 and no byte changed where a text might not fit

unfoldable pub marked_of : Marked → ℕ → Listed
marked_of m room =
    when ltb room longest_marks then record { answer = BufferTooSmall; length = 0 }
    else record { answer = m.answer; length = length (marked_text m) }

unfoldable pub marked_after : Marked → List ℕ → List ℕ
marked_after m buffer =
    when ltb (length buffer) longest_marks then buffer else marked_text m ++ drop (length (marked_text m)) buffer

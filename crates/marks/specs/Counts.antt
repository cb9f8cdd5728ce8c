-- The four counts of the paper's confusion table, and precision, recall and accuracy (02, 9/12).
use Rattle.std.specs.Prelude.{Bool, ℕ, ◌+◌, ◌≤◌}
use Rattle.sets.specs.Tests.{◌and◌, non, when◌then◌else◌}
use Rattle.sets.specs.Sizes.{most_traces}
use Rattle.sets.specs.Members.{count_below}
use Rattle.marks.specs.declared.counts.Counts.{Counts}
use Rattle.marks.specs.declared.counts.Measure.{Measure}

abbrev pub counts_by : ℕ → ℕ → ℕ → ℕ → Counts
counts_by tp fp fn tn = record { true_positives = tp; false_positives = fp; false_negatives = fn; true_negatives = tn }

abbrev pub no_counts : Counts
no_counts = counts_by 0 0 0 0

-- each count is the number of traces of its kind among the first n: a positive has the verdict yes, and it is a true one where the label
-- says so too
unfoldable pub counts_of : ℕ → (ℕ → Bool) → (ℕ → Bool) → Counts
counts_of n verdict ordered =
    counts_by
    (count_below n (λ k. verdict k and ordered k))
    (count_below n (λ k. verdict k and non (ordered k)))
    (count_below n (λ k. non (verdict k) and ordered k))
    (count_below n (λ k. non (verdict k) and non (ordered k)))

-- the counts with one trace more: the word of an inner contract
abbrev pub one_more : Bool → ℕ → ℕ
one_more b n = when b then n + 1 else n

unfoldable pub counted_of : Counts → Bool → Bool → Counts
counted_of c verdict ordered =
    counts_by
    (one_more (verdict and ordered) c.true_positives)
    (one_more (verdict and non ordered) c.false_positives)
    (one_more (non verdict and ordered) c.false_negatives)
    (one_more (non verdict and non ordered) c.true_negatives)

-- none of them is above the limit of traces: a condition of the same contract
pub record Few (c : Counts) : Type 0 where
  pub hits : c.true_positives ≤ most_traces
  pub slips : c.false_positives ≤ most_traces
  pub missed : c.false_negatives ≤ most_traces
  pub passed : c.true_negatives ≤ most_traces

-- ---- the measures: two whole numbers each, not reduced

abbrev pub measure_of : ℕ → ℕ → Measure
measure_of part whole = record { part = part; whole = whole }

-- TP of TP + FP
abbrev pub precision_of : Counts → Measure
precision_of c = measure_of c.true_positives (c.true_positives + c.false_positives)

-- TP of TP + FN
abbrev pub recall_of : Counts → Measure
recall_of c = measure_of c.true_positives (c.true_positives + c.false_negatives)

-- TP + TN of all
abbrev pub accuracy_of : Counts → Measure
accuracy_of c =
    measure_of (c.true_positives + c.true_negatives)
    (c.true_positives + c.true_negatives + (c.false_positives + c.false_negatives))

-- The refusals in their order, and what holds where there is none. Assumes nothing.
use mathlib.Core.Path.{◌≡◌, refl, sym, ap, ◌∙◌}
use mathlib.Core.Bool.{Bool, true, false}
use mathlib.Core.List.{List}
use Prim.Native.Nat.{ℕ, ◌≤◌, ◌<◌}
use borrow.Author.Tests.{eq-eqb, ne_eqb, lt-ltb, le-ltb, ltb-false}
use lib.Dec.{eqb, ltb, eqb→eq}
use lib.ListN.{length}
use Rattle.sets.specs.Tests.{non, when◌then◌else◌}
use Rattle.sets.specs.Sizes.{most_traces}
use Rattle.sets.specs.Answers.{is_done, then_ask}
use Rattle.sets.specs.declared.answer.Answer.{Answer}
use Rattle.sets.specs.declared.answer.Answer.TheVariants.{Done, AboveLimit, BufferTooSmall, LabelsNotAsMany, LabelAboveOne}
use Rattle.sets.proofs.Tests.{true→T}
use Rattle.sets.proofs.Asking.{both, went, refused, passed, gone-on}
use Rattle.engine.specs.Judged.{judged}
use Rattle.engine.specs.declared.graph.Graph.{Graph}
use Rattle.calllog.specs.Judged.{all_below}
use Rattle.calllog.specs.Logs.{log_of, judged_of}
use Rattle.calllog.specs.declared.judge.Judged.{Judged}
use Rattle.marks.specs.Labels.{judged_labels}
use Rattle.marks.specs.Marks.{judged_both, judged_marks, judged_guesses}
use Rattle.marks.specs.Replays.{judged_replays}

-- ---- the labels

module _ (traces : ℕ) (bytes : List ℕ) where
  abbrev by_tests : Bool → Bool → Answer
  by_tests many below = when non many then LabelsNotAsMany else when non below then LabelAboveOne else Done

  pub labels-not-as-many : (length bytes ≡ traces → ⊥) → LabelsNotAsMany ≡ judged_labels traces bytes
  unfolding judged_labels non
  labels-not-as-many n = sym (ap (λ (b : Bool). by_tests b (all_below 2 bytes)) (ne_eqb (length bytes) traces n))

  module _ (r : Bool) (e : length bytes ≡ traces) (h : r ≡ all_below 2 bytes) where
    tested : (t : Bool) → r ≡ t → by_tests true t ≡ judged_labels traces bytes
    unfolding judged_labels
    tested t q = sym (λ i. by_tests (eq-eqb (length bytes) traces e i) ((sym h ∙ q) i))

    pub labels-above-one : r ≡ false → LabelAboveOne ≡ judged_labels traces bytes
    unfolding non
    labels-above-one n = tested false (n)

    pub labels-fit : r ≡ true → Done ≡ judged_labels traces bytes
    unfolding non
    labels-fit n = tested true (n)

pub ruleset labelling = (labels-not-as-many, labels-above-one, labels-fit)

-- as many as the traces, where they are not refused
pub as_many : (traces : ℕ) (bytes : List ℕ) → judged_labels traces bytes ≡ Done → length bytes ≡ traces
unfolding judged_labels non
as_many traces bytes d = same (eqb (length bytes) traces) refl
    (went (non (eqb (length bytes) traces)) LabelsNotAsMany (when non (all_below 2 bytes) then LabelAboveOne else Done) refl d).0
  where
    same : (t : Bool) → eqb (length bytes) traces ≡ t → non t ≡ false → length bytes ≡ traces
    same true e n = eqb→eq (length bytes) traces (true→T e)
    same false e n = absurd (true→T (sym n))

-- ---- log and graph, then what comes after

module _ (log : List ℕ) (g : Graph) (j : Judged) (a : Answer) (d : Bool) (hj : j ≡ judged_of log) (ha : a ≡ then_ask j.answer (judged g))
    (hd : d ≡ is_done a) where
  pub both_is : a ≡ judged_both g log
  both_is = ha ∙ ap (λ (x : Judged). then_ask x.answer (judged g)) hj

  module _ (labels : List ℕ) where
    pub marks-refused : d ≡ false → a ≡ judged_marks g log labels
    unfolding judged_marks
    marks-refused n = refused a (judged_both g log) d both_is hd (judged_labels (length (log_of log).traces) labels) n

    pub marks-asked : (b : Answer) → d ≡ true → b ≡ judged_labels j.traces labels → b ≡ judged_marks g log labels
    unfolding judged_marks
    marks-asked b n e =
        e
        ∙ ap (λ (x : Judged). judged_labels x.traces labels) hj
        ∙ sym (passed a (judged_both g log) d both_is hd (judged_labels (length (log_of log).traces) labels) n)

  module _ (room : ℕ) where
    abbrev room_for : Bool → Answer
    room_for t = when t then BufferTooSmall else Done

    pub replays-refused : d ≡ false → a ≡ judged_replays g log room
    unfolding judged_replays
    replays-refused n = refused a (judged_both g log) d both_is hd (room_for (ltb room (length (log_of log).traces))) n

    room-asked : (t : Bool) → ltb room j.traces ≡ t → d ≡ true → room_for t ≡ judged_replays g log room
    unfolding judged_replays
    room-asked t e n =
        sym (ap room_for e)
        ∙ ap (λ (x : Judged). room_for (ltb room x.traces)) hj
        ∙ sym (passed a (judged_both g log) d both_is hd (room_for (ltb room (length (log_of log).traces))) n)

    pub replays-small : d ≡ true → room < j.traces → BufferTooSmall ≡ judged_replays g log room
    replays-small n l = room-asked true (lt-ltb room j.traces l) n

    pub replays-done : d ≡ true → j.traces ≤ room → Done ≡ judged_replays g log room
    replays-done n l = room-asked false (le-ltb room j.traces l) n

  pub both-done : d ≡ true → judged_both g log ≡ Done
  both-done n = gone-on a (judged_both g log) d both_is hd n

pub ruleset judging = (marks-refused, marks-asked)

-- ---- guesses

module _ (guesses labels : List ℕ) where
  abbrev both_bytes : Answer
  both_bytes = then_ask (judged_labels (length guesses) labels) (judged_labels (length labels) guesses)

  by-limit : (t : Bool) → ltb most_traces (length labels) ≡ t → judged_guesses guesses labels ≡ when t then AboveLimit else both_bytes
  unfolding judged_guesses
  by-limit t e = ap (λ (b : Bool). when b then AboveLimit else both_bytes) e

  pub too-many_lem : most_traces < length labels → AboveLimit ≡ judged_guesses guesses labels
  too-many_lem l = sym (by-limit true (lt-ltb most_traces (length labels) l))

  module _ (l : length labels ≤ most_traces) (a : Answer) (d : Bool) (ha : a ≡ judged_labels (length guesses) labels) (hd : d ≡ is_done a) where
    pub guesses-refused : d ≡ false → a ≡ judged_guesses guesses labels
    guesses-refused n =
        refused a (judged_labels (length guesses) labels) d ha hd (judged_labels (length labels) guesses) n
        ∙ sym (by-limit false (le-ltb most_traces (length labels) l))

    pub guesses-asked : (b : Answer) → d ≡ true → b ≡ judged_labels (length labels) guesses → b ≡ judged_guesses guesses labels
    guesses-asked b n e =
        e
        ∙ sym (passed a (judged_labels (length guesses) labels) d ha hd (judged_labels (length labels) guesses) n)
        ∙ sym (by-limit false (le-ltb most_traces (length labels) l))

  -- where they are not refused
  module _ (d : judged_guesses guesses labels ≡ Done) where
    parts : (ltb most_traces (length labels) ≡ false) × (both_bytes ≡ Done)
    unfolding judged_guesses
    parts = went (ltb most_traces (length labels)) AboveLimit both_bytes refl d

    pub labels-few : length labels ≤ most_traces
    labels-few = ltb-false most_traces (length labels) parts.0

    pub guesses-many : length guesses ≡ length labels
    guesses-many = as_many (length labels) guesses (both (judged_labels (length guesses) labels) (judged_labels (length labels) guesses) parts.1).1

pub ruleset guessing = (too-many_lem, guesses-refused, guesses-asked)

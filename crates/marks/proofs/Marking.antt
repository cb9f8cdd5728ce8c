-- The ways out of `mark` and `mark_guesses`. Assumes nothing.
use mathlib.Core.Path.{◌≡◌, refl, sym, ap, ◌∙◌}
use mathlib.Core.Bool.{Bool, true, false}
use mathlib.Core.List.{List}
use Prim.Native.Nat.{ℕ, ◌≤◌}
use native.Mathlib.Omega.{arith}
use lib.ListN.{length}
use Rattle.sets.specs.Tests.{when◌then◌else◌}
use Rattle.sets.specs.Sizes.{most_traces}
use Rattle.sets.specs.Answers.{is_done}
use Rattle.sets.specs.declared.answer.Answer.{Answer}
use Rattle.sets.specs.declared.answer.Answer.TheVariants.{Done}
use Rattle.sets.proofs.Asking.{both, done-is}
use Rattle.engine.specs.declared.graph.Graph.{Graph}
use Rattle.calllog.specs.Logs.{log_of}
use Rattle.calllog.proofs.Traces.{read-within}
use Rattle.marks.specs.declared.counts.Counts.{Counts}
use Rattle.marks.specs.declared.marks.Marked.{Marked}
use Rattle.marks.specs.Labels.{says_yes, judged_labels}
use Rattle.marks.specs.Counts.{no_counts, counts_of}
use Rattle.marks.specs.Marks.{is_yes, verdict_of, judged_both, judged_marks, marks_of, judged_guesses, guesses_of}
use Rattle.marks.specs.Replays.{part_replay}
use Rattle.marks.proofs.Counting.{counts-ext}
use Rattle.marks.proofs.Asking.{as_many, labels-few, guesses-many}
use Rattle.marks.proofs.Replaying.{part-replayed}

-- a refusal, or done with these counts
marked-as : (a x : Answer) (c c' : Counts) (t : Bool) → a ≡ x → is_done a ≡ t → c' ≡ (when t then c else no_counts)
    → ◌≡◌ {A = Marked} (record { answer = a; counts = c' }) (record { answer = x; counts = when is_done x then c else no_counts })
marked-as a x c c' t e h k = λ i. record { answer = e i; counts = (k ∙ ap (λ (b : Bool). when b then c else no_counts) (sym h ∙ ap is_done e)) i }

-- ---- a graph

module _ (g : Graph) (log labels : List ℕ) where
  abbrev T : ℕ
  T = length (log_of log).traces

  module _ (q : judged_marks g log labels ≡ Done) where
    pub marks-parts : (judged_both g log ≡ Done) × (judged_labels T labels ≡ Done)
    unfolding judged_marks
    marks-parts = both (judged_both g log) (judged_labels T labels) q

    pub labelled : length labels ≡ T
    labelled = as_many T labels marks-parts.1

  module _ (a : Answer) (d : Bool) (ha : a ≡ judged_marks g log labels) (hd : d ≡ is_done a) where
    pub mark-refused : d ≡ false → ◌≡◌ {A = Marked} (record { answer = a; counts = no_counts }) (marks_of g log labels)
    unfolding marks_of
    mark-refused n = marked-as a _ (counts_of T (verdict_of g log) (says_yes labels)) no_counts false ha (sym hd ∙ n) refl

    module _ (n : d ≡ true) where
      all_done : judged_marks g log labels ≡ Done
      all_done = sym ha ∙ done-is a (sym hd ∙ n)

      pub mark-few : length labels ≤ most_traces
      mark-few = omega (arith, labelled all_done, (read-within log).number)

      pub mark-done : (c : Counts) → c ≡ counts_of (length labels) (λ k. is_yes (part_replay g.head g.relations log k)) (says_yes labels)
          → ◌≡◌ {A = Marked} (record { answer = a; counts = c }) (marks_of g log labels)
      unfolding marks_of
      mark-done c h =
          marked-as a _ (counts_of T (verdict_of g log) (says_yes labels)) c true ha (sym hd ∙ n)
          (h
          ∙ ap (λ (m : ℕ). counts_of m (λ k. is_yes (part_replay g.head g.relations log k)) (says_yes labels)) (labelled all_done)
          ∙ counts-ext T _ (verdict_of g log) (says_yes labels) (λ k l. ap is_yes (part-replayed g log (marks-parts all_done).0 k l)))

pub ruleset marking = (mark-refused, mark-few, mark-done)

-- ---- guesses

module _ (guesses labels : List ℕ) (a : Answer) (d : Bool) (ha : a ≡ judged_guesses guesses labels) (hd : d ≡ is_done a) where
  pub guess-refused : d ≡ false → ◌≡◌ {A = Marked} (record { answer = a; counts = no_counts }) (guesses_of guesses labels)
  unfolding guesses_of
  guess-refused n =
      marked-as a _ (counts_of (length labels) (says_yes guesses) (says_yes labels)) no_counts false ha (sym hd ∙ n) refl

  module _ (n : d ≡ true) where
    guesses-done : judged_guesses guesses labels ≡ Done
    guesses-done = sym ha ∙ done-is a (sym hd ∙ n)

    pub guess-few : length labels ≤ most_traces
    guess-few = labels-few guesses labels guesses-done

    pub guess-many : length guesses ≡ length labels
    guess-many = guesses-many guesses labels guesses-done

    pub guess-done : (c : Counts) → c ≡ counts_of (length labels) (says_yes guesses) (says_yes labels)
        → ◌≡◌ {A = Marked} (record { answer = a; counts = c }) (guesses_of guesses labels)
    unfolding guesses_of
    guess-done c h = marked-as a _ (counts_of (length labels) (says_yes guesses) (says_yes labels)) c true ha (sym hd ∙ n) h

pub ruleset marking_guesses = (guess-refused, guess-few, guess-many, guess-done)

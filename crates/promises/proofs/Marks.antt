-- 02, 9/12: marks in exact numbers. `MarkGives g log labels m` says that the function `mark` may give m for a graph, a log and labels, by its
-- own contract; `GuessesGives` the same of `mark_guesses`. Assumes nothing.
--
-- 1. Each count is the number of traces of its kind in the log (`each-count`), and the four add up to the number of traces (`add-up`).
-- 2. The measures are the paper's quotients (`measures`), and `none` is printed exactly where the denominator is 0 (`none-exactly`).
-- 3. 18 exactly where the labels are not as many as the traces, 19 exactly where one is above 1, after the refusals of log and graph; nothing
--    stands beside a refusal (`refused-first`, `not-as-many`, `above-one`, `marked-else`, `nothing-beside`).
-- 4. A trace with an activity that the graph lacks counts as a no (`lacking`).
-- 5. Demand 3 in marks: of the graph of a log, full or light, on that log with all labels 1 every trace is a true positive (`own-marks`).
-- 6. Guesses are counted the same way (`guesses-count`), and so add up too.
use mathlib.Core.Path.{◌≡◌, refl, sym, ap, ◌∙◌}
use mathlib.Core.Bool.{Bool, true, false}
use mathlib.Core.List.{List, [], ◌∷◌}
use Prim.Native.Nat.{ℕ, zero, suc, ◌+◌, ◌<◌}
use native.Mathlib.Omega.{arith}
use borrow.Author.Tests.{eq-eqb, ne_eqb}
use lib.Dec.{T, eqb, eqb→eq}
use lib.ListN.{length, get_or, replicate, length-replicate, get_or-replicate}
use Rattle.sets.specs.Tests.{◌and◌, non, when◌then◌else◌}
use Rattle.sets.specs.Members.{digit, count_below, mem}
use Rattle.sets.specs.Answers.{number_of, is_done, then_ask}
use Rattle.sets.specs.declared.answer.Answer.TheVariants.{Done, NoEvent, NotIncluded, Waiting}
use Rattle.sets.proofs.Asking.{done-is, ask-on, ask-stop}
use Rattle.sets.specs.declared.set.Set.{Set}
use Rattle.sets.proofs.Tests.{true→T, false→F, or-e, either, and-false}
use Rattle.sets.proofs.Below.{count-ext}
use Rattle.engine.specs.Enabled.{marked}
use Rattle.engine.specs.Judged.{judged, judged_for}
use Rattle.engine.specs.Markings.{empty_marking}
use Rattle.engine.specs.Relations.{Relations, relations_of}
use Rattle.engine.specs.Steps.{enabled, after, waits, blocker}
use Rattle.engine.specs.Replay.{ending, replay_from, replay_of}
use Rattle.engine.specs.declared.graph.Graph.{Graph}
use Rattle.engine.specs.declared.marking.State.{State}
use Rattle.calllog.specs.Judged.{all_below}
use Rattle.calllog.specs.Logs.{log_of}
use Rattle.calllog.proofs.Given.{log-answer}
use Rattle.rules.specs.declared.Profile.{Profile}
use Rattle.rules.specs.Traces.{◌has◌}
use Rattle.miner.specs.declared.mining.Mined.{Mined}
use Rattle.marks.specs.Labels.{says_yes, judged_labels}
use Rattle.marks.specs.Counts.{counts_by, no_counts, counts_of, measure_of}
use Rattle.marks.specs.Marks.{is_yes, verdict_of, judged_both, judged_marks, marks_of, guesses_of, judged_guesses}
use Rattle.marks.specs.declared.counts.Counts.{Counts}
use Rattle.marks.specs.declared.counts.Measure.{Measure}
use Rattle.marks.specs.declared.marks.Marked.{Marked}
use Rattle.marks.proofs.Asking.{labels-not-as-many, labels-above-one, labels-fit}
use Rattle.marks.proofs.counts.Counts.precision.Reads as precision
use Rattle.marks.proofs.counts.Counts.recall.Reads as recall
use Rattle.marks.proofs.counts.Counts.accuracy.Reads as accuracy
use Rattle.marks.proofs.marks.mark.Reads as mark
use Rattle.marks.proofs.marks.mark_guesses.Reads as mark-guesses
use Rattle.report.specs.Lines.{decimal, line}
use Rattle.report.specs.Marks.{none_word, measure_line}
use Rattle.promises.proofs.Contracts.{Gives, Holding, MineGives, mine-said}
use Rattle.miner.proofs.Given.{mined-answer, mined-judged}
use Rattle.promises.proofs.Own.{own-through}

-- ---- the four kinds are all there are

four-kinds : (n : ℕ) (v l : ℕ → Bool)
    → count_below n (λ k. v k and l k) + count_below n (λ k. v k and non (l k))
    + (count_below n (λ k. non (v k) and l k) + count_below n (λ k. non (v k) and non (l k))) ≡ n
unfolding count_below ◌and◌ non
four-kinds zero v l = refl
four-kinds (suc n) v l =
    one (v 0) (l 0) (count_below n (λ k. v (suc k) and l (suc k))) (count_below n (λ k. v (suc k) and non (l (suc k))))
    (count_below n (λ k. non (v (suc k)) and l (suc k))) (count_below n (λ k. non (v (suc k)) and non (l (suc k))))
    (four-kinds n (λ k. v (suc k)) (λ k. l (suc k)))
  where
    one : (a b : Bool) (x y z w : ℕ) → x + y + (z + w) ≡ n
        → digit (a and b) + x + (digit (a and non b) + y) + (digit (non a and b) + z + (digit (non a and non b) + w)) ≡ suc n
    one true true x y z w e = omega arith
    one true false x y z w e = omega arith
    one false true x y z w e = omega arith
    one false false x y z w e = omega arith

three-true : {a b c : Bool} → a ≡ true → b ≡ true → c ≡ true → (a and b and c) ≡ true
unfolding ◌and◌
three-true x y z = λ i. x i and y i and z i

-- a step of what is no event is refused with 8
lacks : (events : Set) (r : Relations) (m : State) (e : ℕ) → mem events e ≡ false → enabled events r m e ≡ NoEvent
unfolding enabled non
lacks events r m e n =
    ap (λ (t : Bool). when non t then NoEvent else when non (mem m.included e) then NotIncluded
    else when waits r m e then Waiting (blocker r m e) else Done) n

-- ---- a trace with an activity that the graph lacks

lacking-from : (events : Set) (r : Relations) (m : State) (i : ℕ) (σ : List ℕ) (a : ℕ) → T (σ has a) → mem events a ≡ false
    → is_yes (replay_from events r m i σ) ≡ false
unfolding replay_from is_yes ◌has◌
lacking-from events r m i [] a h n = absurd h
lacking-from events r m i (e ∷ es) a h n =
    by (is_done (enabled events r m e)) refl (λ k. lacking-from events r (after r m e) (i + 1) es a k n)
  where
    here : T (eqb a e) → is_done (enabled events r m e) ≡ false
    here q =
        let same : mem events e ≡ false = ap (mem events) (sym (eqb→eq a e q)) ∙ n in
        ap is_done (lacks events r m e same)

    by : (t : Bool) → is_done (enabled events r m e) ≡ t → (T (es has a) → is_yes (replay_from events r (after r m e) (i + 1) es) ≡ false)
        → is_yes (when t then replay_from events r (after r m e) (i + 1) es else ending (enabled events r m e) i (marked events r m) false) ≡ false
    by false d ih = and-false (is_done (enabled events r m e))
    by true d ih = either (or-e _ _ h) (λ q. absurd (false→F (here q) (true→T d))) (λ q. ih q)

-- ================ 4. "A TRACE WITH AN ACTIVITY THAT THE GRAPH LACKS COUNTS AS A NO"

pub lacking : (g : Graph) (σ : List ℕ) (a : ℕ) → T (σ has a) → mem g.head.events a ≡ false → is_yes (replay_of g σ) ≡ false
unfolding replay_of is_yes
lacking g σ a h n = by (is_done (judged_for g (length σ))) refl
  where
    by : (t : Bool) → is_done (judged_for g (length σ)) ≡ t
        → is_yes (when t then replay_from g.head.events (relations_of g) g.head.opening.state 0 σ
        else ending (judged_for g (length σ)) 0 empty_marking false) ≡ false
    by true d = lacking-from g.head.events (relations_of g) g.head.opening.state 0 σ a h n
    by false d = and-false (is_done (judged_for g (length σ)))

module _ (g : Graph) (log labels : List ℕ) where
  abbrev pub MarkGives : Marked → Type 0
  MarkGives m =
      Holding g.relations (λ tables. Holding log (λ bytes. Holding labels (λ beside.
      Gives mark.Post (λ κ. (g.head, (tables, (bytes, (beside, tt))))) (λ κ. m))))

  pub mark-said : (m : Marked) → MarkGives m → m ≡ marks_of g log labels
  mark-said m c =
      c.2.2.2.2
      ∙ (λ i. marks_of (record { head = g.head; relations = c.1 i }) (c.2.1 i) (c.2.2.1 i))

  -- trace k is in order by its label, and the graph's verdict on it is yes
  abbrev ordered : ℕ → Bool
  ordered k = eqb (get_or labels k 0) 1

  abbrev verdict : ℕ → Bool
  verdict k = is_done (replay_of g (get_or (log_of log).traces k [])).answer and (replay_of g (get_or (log_of log).traces k [])).accepting

  abbrev traces : ℕ
  traces = length (log_of log).traces

  module _ (m : Marked) (c : MarkGives m) where
    answer-is : m.answer ≡ judged_marks g log labels
    unfolding marks_of
    answer-is = ap (λ (x : Marked). x.answer) (mark-said m c)

    counts-by_lem : (t : Bool) → is_done (judged_marks g log labels) ≡ t
        → m.counts ≡ when t then counts_of traces (verdict_of g log) (says_yes labels) else no_counts
    unfolding marks_of
    counts-by_lem t e =
        ap (λ (x : Marked). x.counts) (mark-said m c)
        ∙ ap (λ (b : Bool). when b then counts_of traces (verdict_of g log) (says_yes labels) else no_counts) e

    module _ (done : number_of m.answer ≡ 0) where
      all_done : is_done (judged_marks g log labels) ≡ true
      all_done = ap is_done (sym answer-is) ∙ ap (λ (n : ℕ). eqb n 0) done

      -- ================ 1. EACH COUNT IS THE NUMBER OF TRACES OF ITS KIND, AND THEY ADD UP

      pub each-count : m.counts ≡ counts_by (count_below traces (λ k. verdict k and ordered k))
          (count_below traces (λ k. verdict k and non (ordered k)))
          (count_below traces (λ k. non (verdict k) and ordered k))
          (count_below traces (λ k. non (verdict k) and non (ordered k)))
      unfolding counts_of is_yes
      each-count = counts-by_lem true all_done

      pub add-up : m.counts.true_positives + m.counts.false_positives
          + (m.counts.false_negatives + m.counts.true_negatives) ≡ traces
      add-up =
          ap (λ (x : Counts). x.true_positives + x.false_positives + (x.false_negatives + x.true_negatives)) each-count
          ∙ four-kinds traces verdict ordered

    -- ================ 3. THE REFUSALS: OF LOG AND GRAPH, THEN 18, THEN 19

    pub refused-first : is_done (then_ask (log_of log).answer (judged g)) ≡ false → m.answer ≡ then_ask (log_of log).answer (judged g)
    unfolding judged_marks
    refused-first n = answer-is ∙ ask-stop (judged_both g log) (judged_labels traces labels) n

    module _ (sound : then_ask (log_of log).answer (judged g) ≡ Done) where
      by-labels : m.answer ≡ judged_labels traces labels
      unfolding judged_marks
      by-labels = answer-is ∙ ask-on (judged_both g log) (judged_labels traces labels) sound

      pub not-as-many : (length labels ≡ traces → ⊥) → number_of m.answer ≡ 18
      not-as-many n = ap number_of (by-labels ∙ sym (labels-not-as-many traces labels n))

      pub above-one : length labels ≡ traces → all_below 2 labels ≡ false → number_of m.answer ≡ 19
      above-one e b = ap number_of (by-labels ∙ sym (labels-above-one traces labels false e (sym b) refl))

      pub marked-else : length labels ≡ traces → all_below 2 labels ≡ true → number_of m.answer ≡ 0
      marked-else e b = ap number_of (by-labels ∙ sym (labels-fit traces labels true e (sym b) refl))

    -- nothing beside a refusal
    pub nothing-beside : is_done m.answer ≡ false → m.counts ≡ no_counts
    nothing-beside n = counts-by_lem false (ap is_done (sym answer-is) ∙ n)

-- ================ 2. THE MEASURES

module _ (c : Counts) (r : Measure) where
  -- TP of TP + FP
  pub precision-is : Gives precision.Post (λ κ. (c, tt)) (λ κ. r)
      → r ≡ measure_of c.true_positives (c.true_positives + c.false_positives)
  precision-is h = h.2

  -- TP of TP + FN
  pub recall-is : Gives recall.Post (λ κ. (c, tt)) (λ κ. r)
      → r ≡ measure_of c.true_positives (c.true_positives + c.false_negatives)
  recall-is h = h.2

  -- TP + TN of all
  pub accuracy-is : Gives accuracy.Post (λ κ. (c, tt)) (λ κ. r)
      → r ≡ measure_of (c.true_positives + c.true_negatives)
      (c.true_positives + c.true_negatives + (c.false_positives + c.false_negatives))
  accuracy-is h = h.2

-- `none` exactly where the denominator is 0: else its two numbers
module _ (word : List ℕ) (m : Measure) where
  pub none_at_zero : m.whole ≡ 0 → measure_line word m ≡ line (word ∷ none_word ∷ [])
  unfolding measure_line
  none_at_zero z =
      ap (λ (b : Bool). when b then line (word ∷ none_word ∷ []) else line (word ∷ decimal m.part ∷ decimal m.whole ∷ []))
      (eq-eqb m.whole 0 z)

  pub numbers-else : (m.whole ≡ 0 → ⊥) → measure_line word m ≡ line (word ∷ decimal m.part ∷ decimal m.whole ∷ [])
  unfolding measure_line
  numbers-else z =
      ap (λ (b : Bool). when b then line (word ∷ none_word ∷ []) else line (word ∷ decimal m.part ∷ decimal m.whole ∷ []))
      (ne_eqb m.whole 0 z)

-- ================ 5. DEMAND 3 IN MARKS

below_two : (n : ℕ) → all_below 2 (replicate n 1) ≡ true
unfolding all_below ◌and◌
below_two zero = refl
below_two (suc n) = below_two n

all-count : (n : ℕ) → count_below n (λ k. true) ≡ n
unfolding count_below
all-count zero = refl
all-count (suc n) = omega (arith, all-count n)

-- the graph that is mined of a log, full or light, on that log with all labels 1: every trace is a true positive
module _ (log : List ℕ) (p : Profile) (r : Mined) (mined : MineGives log p r) (done : number_of r.answer ≡ 0) where
  abbrev ones : List ℕ
  ones = replicate (length (log_of log).traces) 1

  module _ (m : Marked) (c : MarkGives r.graph log ones m) where
    log-done : (log_of log).answer ≡ Done
    log-done =
        log-answer log
        ∙ sym (ap (λ (x : Mined). x.answer) (mine-said log p r mined) ∙ mined-answer log p)
        ∙ done-is r.answer (ap (λ (n : ℕ). eqb n 0) done)

    both-done : then_ask (log_of log).answer (judged r.graph) ≡ Done
    both-done =
        ask-on (log_of log).answer (judged r.graph) log-done
        ∙ ap (λ (x : Mined). judged x.graph) (mine-said log p r mined)
        ∙ mined-judged log p

    pub own-done : number_of m.answer ≡ 0
    own-done = marked-else r.graph log ones m c both-done (length-replicate _ 1) (below_two (length (log_of log).traces))

    pub own-marks : m.counts.true_positives ≡ length (log_of log).traces
    own-marks =
        ap (λ (x : Counts). x.true_positives) (each-count r.graph log ones m c own-done)
        ∙ count-ext (length (log_of log).traces) _ (λ k. true) (λ k l. both_true k l)
        ∙ all-count (length (log_of log).traces)
      where
        both_true : (k : ℕ) → k < length (log_of log).traces → (verdict r.graph log ones k and ordered r.graph log ones k) ≡ true
        both_true k l =
            let t = own-through log p k r (replay_of r.graph (get_or (log_of log).traces k [])) (mine-said log p r mined) l refl in
            three-true (ap is_done t.done) t.accepted (eq-eqb _ 1 (get_or-replicate (length (log_of log).traces) k 1 0 l))

-- ================ 6. GUESSES, BY THE SAME COUNTING

module _ (guesses labels : List ℕ) (m : Marked) where
  abbrev pub GuessesGives : Type 0
  GuessesGives =
      Holding guesses (λ first. Holding labels (λ second. Gives mark-guesses.Post (λ κ. (first, (second, tt))) (λ κ. m)))

  module _ (c : GuessesGives) where
    guesses-said : m ≡ guesses_of guesses labels
    guesses-said = c.2.2.2 ∙ (λ i. guesses_of (c.1 i) (c.2.1 i))

    pub guesses-refused : m.answer ≡ judged_guesses guesses labels
    unfolding guesses_of
    guesses-refused = ap (λ (x : Marked). x.answer) guesses-said

    guesses-by : (t : Bool) → is_done (judged_guesses guesses labels) ≡ t
        → m.counts ≡ when t then counts_of (length labels) (says_yes guesses) (says_yes labels) else no_counts
    unfolding guesses_of
    guesses-by t e =
        ap (λ (x : Marked). x.counts) guesses-said
        ∙ ap (λ (b : Bool). when b then counts_of (length labels) (says_yes guesses) (says_yes labels) else no_counts) e

    module _ (done : number_of m.answer ≡ 0) where
      -- a guess in each verdict's place
      pub guesses-count : m.counts ≡ counts_of (length labels) (λ k. eqb (get_or guesses k 0) 1) (λ k. eqb (get_or labels k 0) 1)
      guesses-count = guesses-by true (ap is_done (sym guesses-refused) ∙ ap (λ (n : ℕ). eqb n 0) done)

      pub guesses-add-up : m.counts.true_positives + m.counts.false_positives
          + (m.counts.false_negatives + m.counts.true_negatives) ≡ length labels
      unfolding counts_of
      guesses-add-up =
          ap (λ (x : Counts). x.true_positives + x.false_positives + (x.false_negatives + x.true_negatives)) guesses-count
          ∙ four-kinds (length labels) (says_yes guesses) (says_yes labels)

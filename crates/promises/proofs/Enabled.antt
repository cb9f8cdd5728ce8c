-- 02, 6/12: the enabled activities are kept with the marking. `is_true` (engine/specs/Enabled) is the one place that says what a true marking
-- is: its set has just the events to which the step rules say yes. `true_on g m` asks that of m on the graph g. Assumes nothing.
--
-- 1. "Opening, reading a graph file, each step, the plain engine and the desk's open all keep it true": `mine-true`, `read-true`,
--    `step-true`, `execute-true`, `replay-true`, `plain-step-true`, `plain-execute-true`, `plain-replay-true`, `open-true`, `desk-step-true`.
--    A replay that is refused before its first event gives the empty marking. What a refused step gives back is what it was handed. What
--    is given by a step that judges the marking alone, on a graph judged before, is what the step gives (`step-on-step`).
-- 2. "A marking handed over with a false set is not believed": `gives-16`, `given-16`, and for a graph's own opening marking `graph-16`, `16-graph`.
-- 3. A replay works the set out once, and gives what its steps give that keep it one by one (`replay-by-steps`).
-- 4. 2/12's blocker is 255 exactly for the members of the set, and beside 8 and 9 (`set-blocker`, `blocker-set`).
use mathlib.Core.Path.{◌≡◌, refl, sym, ap, subst, ◌∙◌}
use mathlib.Core.Bool.{Bool, true, false}
use mathlib.Core.Logic.{◌⊎◌, inl, inr}
use mathlib.Core.List.{List, [], ◌∷◌, ◌++◌}
use Prim.Native.Nat.{ℕ, ◌+◌, ◌≤◌, ◌<◌}
use native.Mathlib.Omega.{arith}
use borrow.Author.Tests.{le-ltb, ltb-false}
use lib.Dec.{T, eqb, ltb}
use lib.ListN.{length, drop}
use Rattle.sets.specs.Tests.{◌and◌, non, when◌then◌else◌}
use Rattle.sets.specs.Sizes.{most_activities, longest_trace}
use Rattle.sets.specs.Members.{width, mem}
use Rattle.sets.specs.Answers.{number_of, blocker_of, is_done, then_ask}
use Rattle.sets.specs.declared.activity.Activity.{Activity}
use Rattle.sets.specs.declared.set.Set.{Set}
use Rattle.sets.specs.declared.answer.Answer.{Answer}
use Rattle.sets.specs.declared.answer.Answer.TheVariants.{Done, AboveLimit, Outside, BufferTooSmall, NoEvent, NotIncluded, Waiting, FalseEnabled}
use Rattle.sets.proofs.Tests.{T-eq, T→true, true→T, F→false, false→F, and_l, and_r, and_i, nor, neither, either}
use Rattle.sets.proofs.Members.{Whole, whole-low}
use Rattle.sets.proofs.Below.{least_lt}
use Rattle.sets.proofs.Asking.{done-is}
use Rattle.engine.specs.Markings.{empty_marking}
use Rattle.engine.specs.Relations.{Relations, relations_of, empty_graph}
use Rattle.engine.specs.Steps.{blocking, waits, blocker, enabled, after, accepting}
use Rattle.engine.specs.Enabled.{marked, is_true}
use Rattle.engine.specs.Judged.{state_within, graph_within, true_on, found, judged_for, judged, judged_with}
use Rattle.engine.specs.Replay.{enabled_of, next_marking, stepped_by, stepped_of, accepting_of, ending, replay_from, replay_of}
use Rattle.engine.specs.declared.marking.State.{State}
use Rattle.engine.specs.declared.marking.Marking.{Marking}
use Rattle.engine.specs.declared.graph.Head.{Head}
use Rattle.engine.specs.declared.graph.Graph.{Graph}
use Rattle.engine.specs.declared.step.Stepped.{Stepped}
use Rattle.engine.specs.declared.step.Verdict.{Verdict}
use Rattle.engine.specs.declared.replay.Replayed.{Replayed}
use Rattle.engine.proofs.Judging.{found_none}
use Rattle.engine.proofs.Enabling.{done-parts, marked-true, true-marked, true-says}
use Rattle.engine.proofs.Acceptable.{Kept, judged-true, judged-with_lem, stepped-on_lem, stepped-judged, replay-judged, opening-kept, after_kept}
use Rattle.plain.specs.Graphs.{PlainGraph, plain_of, plain_relations, plain_true, plain_judged_for, plain_judged_with}
use Rattle.plain.specs.Results.{plain_enabled_of, plain_stepped_of, plain_replay_of}
use Rattle.graphfile.specs.Refusals.{judged_file}
use Rattle.graphfile.specs.Held.{graph_in, read_of}
use Rattle.graphfile.specs.Writing.{bytes_of, judged_write, written_of, file_after}
use Rattle.graphfile.specs.declared.writer.Written.{Written}
use Rattle.graphfile.specs.declared.reader.Reading.{Reading}
use Rattle.graphfile.proofs.LoneMarkings.{WholeMarking}
use Rattle.rules.specs.declared.Profile.{Profile}
use Rattle.miner.specs.declared.mining.Mined.{Mined}
use Rattle.desk.specs.Places.{marking_at_place}
use Rattle.desk.specs.Desk.{form_of, open_answer, opened_of, step_answer}
use Rattle.desk.proofs.Serving.{open-accepted}
use Rattle.desk.proofs.OnePlace.{stepped-marking}
use Rattle.desk.specs.declared.requests.Opened.{Opened}
use Rattle.promises.proofs.Contracts.{EnabledGives, enabled-said, StepGives, step-said, StepOnGives, step-on-said, ExecuteGives, execute-said}
use Rattle.promises.proofs.Contracts.{AcceptingGives, accepting-said, ReplayGives, replay-said, ReadGives, read-said, WriteGives, write-said, MineGives, mine-said}
use Rattle.engine.proofs.Acceptable.{empty-judged}
use Rattle.miner.proofs.Given.{mined-judged}
use Rattle.promises.proofs.PlainEngine as plain
use Rattle.promises.proofs.Desk as desk

-- ================ 1. WHAT IS GIVEN BACK IS TRUE

-- a marking handed over and not refused is true, and so is the graph's own
module _ (g : Graph) (m : Marking) (ok : number_of (judged_with g m) ≡ 0) where
  pub handed-true : T (true_on g g.head.opening) × T (true_on g m)
  unfolding judged_with
  handed-true =
      let f = found_none _ _ _ (done-is (judged_with g m) (ap (λ (n : ℕ). eqb n 0) ok)) in (and_l _ _ f.2, and_r _ _ f.2)

  true-after : (e : ℕ) (t : Bool) → T (true_on g (when t then next_marking g m e else m))
  true-after e true = marked-true g.head.events (relations_of g) (after (relations_of g) m.state e)
  true-after e false = handed-true.1

  pub step-true : (e : ℕ) (r : Stepped) → StepGives g m e r → T (true_on g r.marking)
  unfolding stepped_of
  step-true e r c = subst (λ (x : Stepped). T (true_on g x.marking)) (sym (step-said g m e r c)) (true-after e (is_done (enabled_of g m e)))

  pub execute-true : (e : ℕ) (a : Answer) (n : Marking) → ExecuteGives g m e a n → T (true_on g n)
  unfolding stepped_of
  execute-true e a n c =
      subst (λ (x : Stepped). T (true_on g x.marking)) (sym (execute-said g m e a n c)) (true-after e (is_done (enabled_of g m e)))

-- on a graph that was judged before the marking alone need be judged: what `step_on` gives is what `step` gives
pub step-on-step : (g : Graph) (m : Marking) (e : ℕ) (r : Stepped) → number_of (judged g) ≡ 0 → StepOnGives g m e r → r ≡ stepped_of g m e
step-on-step g m e r ok c = step-on-said g m e r c ∙ sym (stepped-on_lem g (done-is (judged g) (ap (λ (n : ℕ). eqb n 0) ok)) m e)

-- wherever a replay ends
ran-true : (events : Set) (r : Relations) (s : State) (i : ℕ) (σ : List ℕ) → T (is_true events r (replay_from events r s i σ).marking)
unfolding replay_from
ran-true events r s i [] = marked-true events r s
ran-true events r s i (e ∷ σ) = by (is_done (enabled events r s e)) (ran-true events r (after r s e) (i + 1) σ)
  where
    by : (t : Bool) → T (is_true events r (replay_from events r (after r s e) (i + 1) σ).marking)
        → T (is_true events r
        (when t then replay_from events r (after r s e) (i + 1) σ else ending (enabled events r s e) i (marked events r s) false).marking)
    by true rest = rest
    by false rest = marked-true events r s

true-or-none : (events : Set) (r : Relations) (s : State) (σ : List ℕ) (x : Answer) (t : Bool) (end : Replayed)
    → end ≡ (when t then replay_from events r s 0 σ else ending x 0 empty_marking false)
    → T (is_true events r end.marking) ⊎ (end.marking ≡ empty_marking)
true-or-none events r s σ x true end h = inl (subst (λ (y : Replayed). T (is_true events r y.marking)) (sym h) (ran-true events r s 0 σ))
true-or-none events r s σ x false end h = inr (ap (λ (y : Replayed). y.marking) h)

module _ (g : Graph) where
  pub replay-true : (σ : List ℕ) (r : Replayed) → ReplayGives g σ r → T (true_on g r.marking) ⊎ (r.marking ≡ empty_marking)
  unfolding replay_of
  replay-true σ r c =
      true-or-none g.head.events (relations_of g) g.head.opening.state σ (judged_for g (length σ)) (is_done (judged_for g (length σ))) r
      (replay-said g σ r c)

-- the opening marking of a graph that is read or mined; of a refused one the graph is empty, and so is its marking
pub read-true : (bytes : List ℕ) (r : Reading) → ReadGives bytes r → T (true_on r.graph r.graph.head.opening)
unfolding read_of graph_in
read-true bytes r c =
    subst (λ (x : Reading). T (true_on x.graph x.graph.head.opening)) (sym (read-said bytes r c)) (by (is_done (judged_file bytes)))
  where
    by : (t : Bool)
        → T (true_on (when t then graph_in bytes else empty_graph) (when t then graph_in bytes else empty_graph).head.opening)
    by true = marked-true _ _ _
    by false = judged-true empty_graph 0 empty-judged

pub mine-true : (bytes : List ℕ) (p : Profile) (m : Mined) → MineGives bytes p m → T (true_on m.graph m.graph.head.opening)
mine-true bytes p m c =
    judged-true m.graph 0 (ap (λ (x : Mined). judged x.graph) (mine-said bytes p m c) ∙ mined-judged bytes p)

-- ---- the plain engine

module _ (head : Head) (c r i x : List ℕ) where
  abbrev given : PlainGraph
  given = plain_of head c r i x

  module _ (m : Marking) (ok : number_of (plain_judged_with given m) ≡ 0) where
    plain-handed : T (plain_true given m)
    unfolding plain_judged_with
    plain-handed = and_r _ _ (found_none _ _ _ (done-is (plain_judged_with given m) (ap (λ (n : ℕ). eqb n 0) ok))).2

    plain-after : (e : ℕ) → T (plain_true given (plain_stepped_of given m e).marking)
    unfolding plain_stepped_of
    plain-after e = by (is_done (plain_enabled_of given m e))
      where
        by : (t : Bool)
            → T (plain_true given (when t then marked head.events (plain_relations given) (after (plain_relations given) m.state e) else m))
        by true = marked-true head.events (plain_relations given) (after (plain_relations given) m.state e)
        by false = plain-handed

    pub plain-step-true : (e : ℕ) (s : Stepped) → plain.PlainStepGives head c r i x m e s → T (plain_true given s.marking)
    plain-step-true e s h =
        subst (λ (y : Stepped). T (plain_true given y.marking)) (sym (plain.plain-step-said head c r i x m e s h)) (plain-after e)

    pub plain-execute-true : (e : ℕ) (a : Answer) (n : Marking) → plain.PlainExecuteGives head c r i x m e a n → T (plain_true given n)
    plain-execute-true e a n h =
        subst (λ (y : Stepped). T (plain_true given y.marking)) (sym (plain.plain-execute-said head c r i x m e a n h)) (plain-after e)

  pub plain-replay-true : (σ : List ℕ) (end : Replayed) → plain.PlainReplayGives head c r i x σ end
      → T (plain_true given end.marking) ⊎ (end.marking ≡ empty_marking)
  unfolding plain_replay_of
  plain-replay-true σ end h =
      true-or-none head.events (plain_relations given) head.opening.state σ (plain_judged_for given (length σ))
      (is_done (plain_judged_for given (length σ))) end (plain.plain-replay-said head c r i x σ end h)

-- ---- the desk: what stands at a place after open, and after a step

module _ (g : Graph) (before left : List ℕ) where
  pub open-true : WholeMarking g.head.opening → (r : Opened) → desk.OpenGives g before r left → number_of r.answer ≡ 0
      → T (true_on g (marking_at_place (form_of g) left r.place))
  unfolding opened_of
  open-true w r c d =
      let said = (desk.open_said g before r left c).0 in
      let done = done-is (open_answer g before) (ap (λ (x : Opened). is_done x.answer) (sym said) ∙ ap (λ (n : ℕ). eqb n 0) d) in
      subst (λ (m : Marking). T (true_on g m)) (sym (desk.open-opens g before r left c w d).1) (judged-true g 0 (open-accepted before g done))

  pub desk-step-true : (p a : ℕ) (x : Answer) → desk.StepGives g before p a x left → number_of x ≡ 0 → T (true_on g (marking_at_place (form_of g) left p))
  desk-step-true p a x c d =
      let said = desk.step-said g before p a x left c in
      let done = done-is (step_answer g before p a) (ap is_done (sym said.0) ∙ ap (λ (n : ℕ). eqb n 0) d) in
      subst (λ (m : Marking). T (true_on g m))
      (sym (ap (λ (t : List ℕ). marking_at_place (form_of g) t p) said.1 ∙ stepped-marking g before p a done))
      (marked-true g.head.events (relations_of g) (after (relations_of g) (marking_at_place (form_of g) before p).state a))

-- ================ 2. 16, EXACTLY WHERE A SET IS FALSE

module _ (a i t : Bool) where
  only-16 : number_of (found a i t) ≡ 16 → (a ≡ false) × T i × (T t → ⊥)
  unfolding found non
  only-16 = by a i t
    where
      no : {P : Type 0} (n : ℕ) → eqb n 16 ≡ false → n ≡ 16 → P
      no n f h = absurd (false→F f (true→T (ap (λ (k : ℕ). eqb k 16) h)))

      by : (a i t : Bool) → number_of (when a then AboveLimit else when non i then Outside else when non t then FalseEnabled else Done) ≡ 16
          → (a ≡ false) × T i × (T t → ⊥)
      by true i t h = no 3 refl h
      by false false t h = no 5 refl h
      by false true true h = no 0 refl h
      by false true false h = (refl, tt, λ z. z)

  then-16 : a ≡ false → T i → (T t → ⊥) → found a i t ≡ FalseEnabled
  unfolding found non
  then-16 ha hi ht j =
      when ha j then AboveLimit else when non (T→true i hi j) then Outside else when non (F→false t ht j) then FalseEnabled else Done

-- beside a graph: 3 and every 5 come first
pub record FalseBeside (g : Graph) (m : Marking) : Type 0 where
  pub few : g.head.activities ≤ most_activities
  pub inside : T (graph_within g)
  pub beside : T (state_within g.head.events m.state)
  pub untrue : T (true_on g g.head.opening) → T (true_on g m) → ⊥

module _ (g : Graph) (m : Marking) where
  judged-16 : number_of (judged_with g m) ≡ 16 → FalseBeside g m
  unfolding judged_with
  judged-16 h =
      let f = only-16 _ _ _ h in
      record {
        few = ltb-false most_activities g.head.activities f.0;
        inside = and_l _ _ f.1;
        beside = and_r _ _ f.1;
        untrue = λ o n. f.2 (and_i _ _ o n);
      }

  16-judged : FalseBeside g m → judged_with g m ≡ FalseEnabled
  unfolding judged_with
  16-judged f =
      then-16 _ _ _ (le-ltb most_activities g.head.activities f.few) (and_i _ _ f.inside f.beside)
      (λ t. f.untrue (and_l _ _ t) (and_r _ _ t))

  -- `accepting` gives what the judgement does
  pub given-16 : (v : Verdict) → AcceptingGives g m v → number_of v.answer ≡ 16 → FalseBeside g m
  unfolding accepting_of
  given-16 v c h = judged-16 (ap (λ (x : Verdict). number_of x.answer) (sym (accepting-said g m v c)) ∙ h)

  pub gives-16 : (v : Verdict) → AcceptingGives g m v → FalseBeside g m → number_of v.answer ≡ 16
  unfolding accepting_of
  gives-16 v c f = ap (λ (x : Verdict). number_of x.answer) (accepting-said g m v c) ∙ ap number_of (16-judged f)

  -- `enabled`, and with it `step` and `execute`: 8, 9 and 10 come after
  asked-16 : FalseBeside g m → (e : ℕ) → enabled_of g m e ≡ FalseEnabled
  unfolding enabled_of
  asked-16 f e =
      ap (λ (x : Answer). then_ask x (enabled g.head.events (relations_of g) m.state e)) (16-judged f)

  pub enabled-16 : (e : ℕ) (a : Answer) → EnabledGives g m e a → FalseBeside g m → number_of a ≡ 16
  enabled-16 e a c f = ap number_of (enabled-said g m e a c ∙ asked-16 f e)

  -- a step then changes nothing
  stepped-16 : FalseBeside g m → (e : ℕ) → stepped_of g m e ≡ record { answer = FalseEnabled; marking = m }
  unfolding stepped_of
  stepped-16 f e = ap (λ (x : Answer). stepped_by x g.head.events (relations_of g) m e) (asked-16 f e)

  pub step-16 : (e : ℕ) (r : Stepped) → StepGives g m e r → FalseBeside g m → (number_of r.answer ≡ 16) × (r.marking ≡ m)
  step-16 e r c f =
      let h = step-said g m e r c ∙ stepped-16 f e in (ap (λ (x : Stepped). number_of x.answer) h, ap (λ (x : Stepped). x.marking) h)

  pub execute-16 : (e : ℕ) (a : Answer) (n : Marking) → ExecuteGives g m e a n → FalseBeside g m → (number_of a ≡ 16) × (n ≡ m)
  execute-16 e a n c f =
      let h = execute-said g m e a n c ∙ stepped-16 f e in (ap (λ (x : Stepped). number_of x.answer) h, ap (λ (x : Stepped). x.marking) h)

-- a graph by itself, as `replay` and `write` judge it: its opening marking is the false one
pub record FalseOpening (g : Graph) : Type 0 where
  pub few : g.head.activities ≤ most_activities
  pub inside : T (graph_within g)
  pub untrue : T (true_on g g.head.opening) → ⊥

module _ (g : Graph) where
  pub graph-16 : (n : ℕ) → number_of (judged_for g n) ≡ 16 → FalseOpening g
  unfolding judged_for
  graph-16 n h =
      let f = only-16 _ _ _ h in
      record { few = ltb-false most_activities g.head.activities (neither _ _ f.0).0; inside = f.1; untrue = f.2 }

  pub 16-graph : FalseOpening g → (n : ℕ) → n ≤ longest_trace → judged_for g n ≡ FalseEnabled
  unfolding judged_for
  16-graph f n l =
      then-16 _ _ _ (nor _ _ (le-ltb most_activities g.head.activities f.few) (le-ltb longest_trace n l)) f.inside f.untrue

  -- a replay then gives place 0 and the empty marking; a write leaves the buffer
  pub replay-16 : (σ : List ℕ) (r : Replayed) → ReplayGives g σ r → FalseOpening g → length σ ≤ longest_trace
      → r ≡ ending FalseEnabled 0 empty_marking false
  unfolding replay_of
  replay-16 σ r c f l =
      replay-said g σ r c
      ∙ ap (λ (x : Answer).
      when is_done x then replay_from g.head.events (relations_of g) g.head.opening.state 0 σ else ending x 0 empty_marking false)
      (16-graph f (length σ) l)

  pub write-16 : (before : List ℕ) (w : Written) (left : List ℕ) → WriteGives g before w left → FalseOpening g
      → (number_of w.answer ≡ 16) × (left ≡ before)
  unfolding written_of file_after judged_write
  write-16 before w left c f =
      let h = write-said g before w left c in
      let x : judged_write g (length before) ≡ FalseEnabled =
      ap (λ (y : Answer). then_ask y (when ltb (length before) (length (bytes_of g)) then BufferTooSmall else Done)) (16-graph f 0 (omega arith)) in (
        ap (λ (y : Written). number_of y.answer) h.0 ∙ ap number_of x,
        h.1 ∙ ap (λ (y : Answer). when is_done y then bytes_of g ++ drop (length (bytes_of g)) before else before) x,
      )

-- ================ 3. A REPLAY IS ITS STEPS

-- step by step, each with its own set
unfoldable pub by_steps : Graph → Marking → ℕ → List ℕ → Replayed
by_steps g m i [] = ending Done i m (accepting_of g m).accepting
by_steps g m i (e ∷ σ) =
    when is_done (stepped_of g m e).answer then by_steps g (stepped_of g m e).marking (i + 1) σ
    else ending (stepped_of g m e).answer i m false

-- `Whole` says that the events are the set of their members, as every set of the code is
module _ (g : Graph) (ok : judged g ≡ Done) (w : Whole g.head.events) where
  abbrev events : Set
  events = g.head.events

  abbrev q : Relations
  q = relations_of g

  abbrev at : State → Marking
  at s = marked events q s

  kept_at : (s : State) → T (state_within events s) → Kept g (at s)
  kept_at s h = record { inside = h; truthful = marked-true events q s }

  an-event : (s : State) (e : ℕ) → is_done (enabled events q s e) ≡ true → T (mem events e)
  an-event s e h = and_l _ _ (and_l _ _ (T-eq (done-parts events q s e) (true→T h)))

  from-state : (σ : List ℕ) (s : State) (i : ℕ) → T (state_within events s) → by_steps g (at s) i σ ≡ replay_from events q s i σ
  unfolding by_steps replay_from accepting_of ◌and◌
  from-state [] s i h =
      ap (λ (x : Answer). ending Done i (at s) (is_done x and accepting s)) (judged-with_lem g ok (at s) (kept_at s h))
  from-state (e ∷ σ) s i h =
      ap (λ (x : Stepped). when is_done x.answer then by_steps g x.marking (i + 1) σ else ending x.answer i (at s) false)
      (stepped-judged g ok (at s) (kept_at s h) e)
      ∙ by (is_done (enabled events q s e)) refl (from-state σ (after q s e) (i + 1))
    where
      by : (t : Bool) → is_done (enabled events q s e) ≡ t
          → (T (state_within events (after q s e)) → by_steps g (at (after q s e)) (i + 1) σ ≡ replay_from events q (after q s e) (i + 1) σ)
          → (when t then by_steps g (when t then at (after q s e) else at s) (i + 1) σ else ending (enabled events q s e) i (at s) false)
          ≡ (when t then replay_from events q (after q s e) (i + 1) σ else ending (enabled events q s e) i (at s) false)
      by true d rest = let ev = an-event s e d in rest (after_kept g ok s e (whole-low events w e ev) ev h).inside
      by false d rest = refl

  pub replay-by-steps : Whole g.head.opening.enabled → (σ : List ℕ) (r : Replayed) → ReplayGives g σ r → length σ ≤ longest_trace
      → r ≡ by_steps g g.head.opening 0 σ
  replay-by-steps v σ r c l =
      replay-said g σ r c ∙ replay-judged g ok σ l
      ∙ sym (from-state σ g.head.opening.state 0 (opening-kept g ok).inside)
      ∙ ap (λ (m : Marking). by_steps g m 0 σ) (sym (true-marked events q g.head.opening (judged-true g 0 ok) v))

-- ================ 4. THE SET AND THE BLOCKER

-- the blocker is one of the 64 activities, so it is never 255
low-blocker : (r : Relations) (s : State) (e : ℕ) → waits r s e ≡ true → (blocker r s e).0 < 255
unfolding waits blocker
low-blocker r s e h = omega (arith, least_lt width (blocking r s e) (true→T h))

-- the rules' answer by their three tests
abbrev answer : Activity → Bool → Bool → Bool → Answer
answer b x y z = when x then NoEvent else when y then NotIncluded else when z then Waiting b else Done

no-blocker_lem : (r : Relations) (s : State) (e : ℕ) (events : Set) → blocker_of (enabled events r s e) ≡ 255
    → (enabled events r s e ≡ Done) ⊎ ((number_of (enabled events r s e) ≡ 8) ⊎ (number_of (enabled events r s e) ≡ 9))
unfolding enabled
no-blocker_lem r s e events = by (non (mem events e)) (non (mem s.included e)) (waits r s e) refl
  where
    by : (x y z : Bool) → waits r s e ≡ z → blocker_of (answer (blocker r s e) x y z) ≡ 255
        → (answer (blocker r s e) x y z ≡ Done)
        ⊎ ((number_of (answer (blocker r s e) x y z) ≡ 8) ⊎ (number_of (answer (blocker r s e) x y z) ≡ 9))
    by true y z w h = inr (inl refl)
    by false true z w h = inr (inr refl)
    by false false true w h = let low = low-blocker r s e w in absurd (omega (arith, h))
    by false false false w h = inl refl

module _ (g : Graph) (m : Marking) (ok : number_of (judged_with g m) ≡ 0) (e : ℕ) (a : Answer) (c : EnabledGives g m e a) where
  abbrev asked : Answer
  asked = enabled g.head.events (relations_of g) m.state e

  said : a ≡ asked
  unfolding enabled_of
  said =
      enabled-said g m e a c
      ∙ ap (λ (x : Answer). then_ask x asked) (done-is (judged_with g m) (ap (λ (n : ℕ). eqb n 0) ok))

  -- a member of the set is answered with 0, and 8, 9 and 0 name no blocker
  pub set-blocker : Whole m.enabled → T (mem m.enabled e) → (number_of a ≡ 0) × (blocker_of a ≡ 255)
  set-blocker w t =
      let done = true-says g.head.events (relations_of g) m (handed-true g m ok).1 e (whole-low m.enabled w e t) in
      let is : a ≡ Done = said ∙ done-is asked (sym done ∙ T→true _ t) in
      (ap number_of is, ap blocker_of is)

  pub blocker-set : Whole g.head.events → blocker_of a ≡ 255 → T (mem m.enabled e) ⊎ ((number_of a ≡ 8) ⊎ (number_of a ≡ 9))
  blocker-set w h =
      either (no-blocker_lem (relations_of g) m.state e g.head.events (ap blocker_of (sym said) ∙ h))
      (λ d.
      let t : T (is_done asked) = true→T (ap is_done d) in
      let low = whole-low g.head.events w e (and_l _ _ (and_l _ _ (T-eq (done-parts g.head.events (relations_of g) m.state e) t))) in
      inl (T-eq (sym (true-says g.head.events (relations_of g) m (handed-true g m ok).1 e low)) t))
      (λ n. inr (either n (λ x. inl (ap number_of said ∙ x)) (λ x. inr (ap number_of said ∙ x))))

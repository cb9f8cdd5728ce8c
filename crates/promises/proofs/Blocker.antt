-- 02, 2/12, SAY WHICH STEP BLOCKS, as theorems about the public functions. Assumes nothing.
--
-- 1. `carries-..`: of enabled, step, execute and replay, and of the same four of the plain engine, for every input: where the number is 10, the
--    answer's blocker is a condition source of the step, included and not executed, and no smaller activity is all three; beside any other
--    number it is 255. A replay says so of the event at its place, at its marking. (`Blocks`, `Carries` in specs/Demanded.antt.)
-- 2. `same-..`: both engines name the same blocker, for a graph and lists that hold its pairs. PlainEngine's theorems of these names say more:
--    the whole answer is the same.
-- 3. That ⟨2⟩ on G gives 10 at place 0, blocked by 0, stands in the table of cases (rules/proofs/Cases).
use mathlib.Core.Path.{◌≡◌, refl, sym, ap, subst}
use mathlib.Core.Bool.{Bool, true, false}
use mathlib.Core.List.{List}
use Prim.Native.Nat.{ℕ, ◌<◌}
use lib.Dec.{eqb}
use lib.ListN.{length, get_or}
use Rattle.sets.specs.Tests.{non, when◌then◌else◌}
use Rattle.sets.specs.Members.{width, mem}
use Rattle.sets.specs.Answers.{number_of, blocker_of, is_done, then_ask}
use Rattle.sets.specs.declared.activity.Activity.{Activity}
use Rattle.sets.specs.declared.set.Set.{Set}
use Rattle.sets.specs.declared.answer.Answer.{Answer}
use Rattle.sets.specs.declared.answer.Answer.TheVariants.{Done, TooShort, WrongLetters, AboveLimit, WrongOffset, Outside, BadRow, BufferTooSmall, NoEvent, NotIncluded, Waiting, NoTrace, WrongArgument}
use Rattle.sets.specs.declared.answer.Answer.TheVariants.{NoPlaceFree, NotOpen, NotAccepting, FalseEnabled, NoWayOut}
use Rattle.sets.specs.declared.answer.Answer.TheVariants.{LabelsNotAsMany, LabelAboveOne}
use Rattle.sets.proofs.Tests.{and_l, and_r, and_i, non-i, non-e, T→true, F→false, true→T, false→F, split, either}
use Rattle.sets.proofs.Below.{least_lt, least-is, least-before}
use Rattle.sets.proofs.Asking.{done-is, ask-on, ask-stop}
use Rattle.engine.specs.Markings.{empty_state, empty_marking}
use Rattle.engine.specs.Relations.{Relations, relations_of}
use Rattle.engine.specs.Steps.{blocking, waits, blocker, enabled}
use Rattle.engine.specs.Judged.{found, judged_for, judged_with}
use Rattle.engine.proofs.Judging.{found-one}
use Rattle.engine.specs.Replay.{enabled_of, stepped_of, ending, replay_from, replay_of}
use Rattle.engine.specs.declared.marking.State.{State}
use Rattle.engine.specs.declared.marking.Marking.{Marking}
use Rattle.engine.specs.declared.graph.Head.{Head}
use Rattle.engine.specs.declared.graph.Graph.{Graph}
use Rattle.engine.specs.declared.step.Stepped.{Stepped}
use Rattle.engine.specs.declared.replay.Replayed.{Replayed}
use Rattle.plain.specs.Graphs.{PlainGraph, plain_of, plain_relations, plain_judged_for, plain_judged_with}
use Rattle.plain.specs.Results.{plain_enabled_of, plain_stepped_of, plain_replay_of}
use Rattle.plain.specs.Same.{InLists}
use Rattle.promises.specs.Demanded.{Blocks, Carries}
use Rattle.promises.proofs.StepForStep.{stops_at}
use Rattle.promises.proofs.Contracts.{EnabledGives, enabled-said, StepGives, step-said, ExecuteGives, execute-said, ReplayGives, replay-said}
use Rattle.promises.proofs.PlainEngine as plain

-- ---- 10 is given by rule 10 alone

abbrev Other : Answer → Type 0
Other a = number_of a ≡ 10 → ⊥

-- the number n is not 10
not-10 : (n : ℕ) → eqb n 10 ≡ false → n ≡ 10 → ⊥
not-10 n h e = false→F h (true→T (ap (λ (k : ℕ). eqb k 10) e))

found-other : (a i t : Bool) → Other (found a i t)
found-other a i t = found-one a i t Other (not-10 3 refl) (not-10 5 refl) (not-10 16 refl) (not-10 0 refl)

-- ---- what an answer carries

beside-others : (a : Answer) → Other a → blocker_of a ≡ 255
beside-others Done n = refl
beside-others TooShort n = refl
beside-others WrongLetters n = refl
beside-others AboveLimit n = refl
beside-others WrongOffset n = refl
beside-others Outside n = refl
beside-others BadRow n = refl
beside-others BufferTooSmall n = refl
beside-others NoEvent n = refl
beside-others NotIncluded n = refl
beside-others (Waiting b) n = absurd (n refl)
beside-others NoTrace n = refl
beside-others WrongArgument n = refl
beside-others NoPlaceFree n = refl
beside-others NotOpen n = refl
beside-others NotAccepting n = refl
beside-others FalseEnabled n = refl
beside-others NoWayOut n = refl
beside-others LabelsNotAsMany n = refl
beside-others LabelAboveOne n = refl

module _ (r : Relations) (m : State) (e : ℕ) where
  -- the least number that blocks is the blocker
  least-blocks : waits r m e ≡ true → Blocks r m e (blocker r m e).0
  unfolding waits blocker
  least-blocks w =
      let t = least-is width (blocking r m e) (least_lt width (blocking r m e) (true→T w)) in
      record {
        source = T→true _ (and_l _ _ (and_l _ _ t));
        included = T→true _ (and_r _ _ (and_l _ _ t));
        not-executed = F→false _ (non-e _ (and_r _ _ t));
        smallest = λ a l s i x.
            false→F (least-before width (blocking r m e) a l) (and_i _ _ (and_i _ _ (true→T s) (true→T i)) (non-i _ (false→F x)));
      }

  rules-carry : (events : Set) → Carries r m e (enabled events r m e)
  unfolding enabled
  rules-carry events =
      record {
        beside-10 = λ h.
            let d = by (non (mem events e)) (non (mem m.included e)) (waits r m e) (blocker r m e) h in
            subst (Blocks r m e) (sym d.1) (least-blocks d.0);
        beside-others = beside-others (enabled events r m e);
      }
    where
      by : (a b c : Bool) (s : Activity) → number_of (when a then NoEvent else when b then NotIncluded else when c then Waiting s else Done) ≡ 10
          → (c ≡ true) × (blocker_of (when a then NoEvent else when b then NotIncluded else when c then Waiting s else Done) ≡ s.0)
      by true b c s h = absurd (not-10 8 refl h)
      by false true c s h = absurd (not-10 9 refl h)
      by false false true s h = (refl, refl)
      by false false false s h = absurd (not-10 0 refl h)

  -- an answer of which 10 is not given carries nothing
  other-carries : (a : Answer) → Other a → Carries r m e a
  other-carries a n = record { beside-10 = λ h. absurd (n h); beside-others = beside-others a }

  -- a judgement, then the rules
  asked-carries : (events : Set) (x : Answer) → Other x → Carries r m e (then_ask x (enabled events r m e))
  asked-carries events x n =
      either (split (is_done x))
      (λ y. subst (Carries r m e) (sym (ask-on x (enabled events r m e) (done-is x (T→true _ y)))) (rules-carry events))
      (λ y. subst (Carries r m e) (sym (ask-stop x (enabled events r m e) (F→false _ y))) (other-carries x n))

-- a judgement, then a replay: of the event that it stopped at
module _ (events : Set) (r : Relations) (opening : State) (σ : List ℕ) (x : Answer) (n : Other x) where
  abbrev CarriesThere : Replayed → Type 0
  CarriesThere end = Carries r end.marking.state (get_or σ end.place.0 0) end.answer

  run-carries : (end : Replayed) → end ≡ replay_from events r opening 0 σ → CarriesThere end
  run-carries end h =
      either (split (is_done end.answer))
      (λ y. other-carries r end.marking.state _ end.answer (subst Other (sym (done-is end.answer (T→true _ y))) (not-10 0 refl)))
      (λ y.
      let s = stops_at events r opening σ end h (F→false _ y) in
      subst (Carries r end.marking.state (get_or σ end.place.0 0)) s.refusal (rules-carry r end.marking.state _ events))

  replayed-carries : (end : Replayed)
      → end ≡ (when is_done x then replay_from events r opening 0 σ else ending x 0 empty_marking false) → CarriesThere end
  replayed-carries end h = by (is_done x) h
    where
      by : (t : Bool) → end ≡ (when t then replay_from events r opening 0 σ else ending x 0 empty_marking false) → CarriesThere end
      by true k = run-carries end k
      by false k = subst CarriesThere (sym k) (other-carries r empty_state (get_or σ 0 0) x n)

-- ================ 1. WHAT THE FUNCTIONS CARRY

module _ (g : Graph) where
  module _ (m : Marking) (e : ℕ) where
    asked : Carries (relations_of g) m.state e (enabled_of g m e)
    unfolding enabled_of judged_with
    asked =
        asked-carries (relations_of g) m.state e g.head.events (judged_with g m) (found-other _ _ _)

    of-step : (s : Stepped) → s ≡ stepped_of g m e → Carries (relations_of g) m.state e s.answer
    unfolding stepped_of
    of-step s h = subst (λ (t : Stepped). Carries (relations_of g) m.state e t.answer) (sym h) asked

    pub carries-enabled : (a : Answer) → EnabledGives g m e a → Carries (relations_of g) m.state e a
    carries-enabled a c = subst (Carries (relations_of g) m.state e) (sym (enabled-said g m e a c)) asked

    pub carries-step : (s : Stepped) → StepGives g m e s → Carries (relations_of g) m.state e s.answer
    carries-step s c = of-step s (step-said g m e s c)

    pub carries-execute : (a : Answer) (n : Marking) → ExecuteGives g m e a n → Carries (relations_of g) m.state e a
    carries-execute a n c = of-step (record { answer = a; marking = n }) (execute-said g m e a n c)

  pub carries-replay : (σ : List ℕ) (end : Replayed) → ReplayGives g σ end
      → Carries (relations_of g) end.marking.state (get_or σ end.place.0 0) end.answer
  unfolding replay_of judged_for
  carries-replay σ end c =
      replayed-carries g.head.events (relations_of g) g.head.opening.state σ (judged_for g (length σ)) (found-other _ _ _) end
      (replay-said g σ end c)

-- ---- the plain engine, on lists of any pairs

module _ (head : Head) (c r i x : List ℕ) where
  abbrev given : PlainGraph
  given = plain_of head c r i x

  module _ (m : Marking) (e : ℕ) where
    plain-asked : Carries (plain_relations given) m.state e (plain_enabled_of given m e)
    unfolding plain_enabled_of plain_judged_with
    plain-asked =
        asked-carries (plain_relations given) m.state e head.events (plain_judged_with given m) (found-other _ _ _)

    of-plain-step : (s : Stepped) → s ≡ plain_stepped_of given m e → Carries (plain_relations given) m.state e s.answer
    unfolding plain_stepped_of
    of-plain-step s h = subst (λ (t : Stepped). Carries (plain_relations given) m.state e t.answer) (sym h) plain-asked

    pub carries-plain-enabled : (a : Answer) → plain.PlainEnabledGives head c r i x m e a → Carries (plain_relations given) m.state e a
    carries-plain-enabled a k = subst (Carries (plain_relations given) m.state e) (sym (plain.plain-enabled-said head c r i x m e a k)) plain-asked

    pub carries-plain-step : (s : Stepped) → plain.PlainStepGives head c r i x m e s → Carries (plain_relations given) m.state e s.answer
    carries-plain-step s k = of-plain-step s (plain.plain-step-said head c r i x m e s k)

    pub carries-plain-execute : (a : Answer) (n : Marking) → plain.PlainExecuteGives head c r i x m e a n → Carries (plain_relations given) m.state e a
    carries-plain-execute a n k = of-plain-step (record { answer = a; marking = n }) (plain.plain-execute-said head c r i x m e a n k)

  pub carries-plain-replay : (σ : List ℕ) (end : Replayed) → plain.PlainReplayGives head c r i x σ end
      → Carries (plain_relations given) end.marking.state (get_or σ end.place.0 0) end.answer
  unfolding plain_replay_of plain_judged_for
  carries-plain-replay σ end k =
      replayed-carries head.events (plain_relations given) head.opening.state σ (plain_judged_for given (length σ))
      (found-other _ _ _) end (plain.plain-replay-said head c r i x σ end k)

-- ================ 2. BOTH ENGINES NAME THE SAME

module _ (g : Graph) (c r i x : List ℕ) (same : InLists g.relations c r i x) where
  module _ (m : Marking) (e : ℕ) (l : e < 256) where
    pub same-enabled : (a b : Answer) → EnabledGives g m e a → plain.PlainEnabledGives g.head c r i x m e b → blocker_of a ≡ blocker_of b
    same-enabled a b h k = ap blocker_of (plain.same-enabled g c r i x same m e l a b h k)

    pub same_step : (a b : Stepped) → StepGives g m e a → plain.PlainStepGives g.head c r i x m e b
        → blocker_of a.answer ≡ blocker_of b.answer
    same_step a b h k = ap (λ (s : Stepped). blocker_of s.answer) (plain.same_step g c r i x same m e l a b h k)

    pub same-execute : (a b : Answer) (n n' : Marking) → ExecuteGives g m e a n → plain.PlainExecuteGives g.head c r i x m e b n'
        → blocker_of a ≡ blocker_of b
    same-execute a b n n' h k = ap blocker_of (plain.same-execute g c r i x same m e l a b n n' h k).0

  pub same-replay : (σ : List ℕ) → ((k : ℕ) → get_or σ k 0 < 256) → (a b : Replayed) → ReplayGives g σ a
      → plain.PlainReplayGives g.head c r i x σ b → blocker_of a.answer ≡ blocker_of b.answer
  same-replay σ bytes a b h k = ap (λ (e : Replayed). blocker_of e.answer) (plain.same-replay g c r i x same σ bytes a b h k)

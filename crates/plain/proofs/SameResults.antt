-- The step rules ask of a relation only which pairs it has, as far as a set reaches: relations that agree there give the same
-- everywhere. Assumes nothing.
use mathlib.Core.Path.{◌≡◌, ap, ◌∙◌}
use mathlib.Core.Bool.{Bool, false}
use mathlib.Core.List.{List, [], ◌∷◌}
use Prim.Native.Nat.{ℕ, suc, ◌+◌, ◌<◌}
use native.Mathlib.Omega.{arith}
use lib.Dec.{eqb}
use lib.ListN.{get_or}
use Rattle.sets.specs.Tests.{◌and◌, ◌or◌, non, when◌then◌else◌}
use Rattle.sets.specs.Members.{width, mem, those, within}
use Rattle.sets.specs.Rows.{Relation}
use Rattle.sets.specs.Answers.{is_done, then_ask}
use Rattle.sets.specs.declared.set.Set.{Set}
use Rattle.sets.specs.declared.answer.Answer.{Answer}
use Rattle.sets.specs.declared.answer.Answer.TheVariants.{Done, NoEvent, NotIncluded, Waiting}
use Rattle.sets.proofs.Below.{some-ext, least-ext}
use Rattle.sets.proofs.Members.{those-ext}
use Rattle.engine.specs.declared.marking.State.{State}
use Rattle.engine.specs.declared.marking.Marking.{Marking}
use Rattle.engine.specs.declared.step.Stepped.{Stepped}
use Rattle.engine.specs.Markings.{state_of, marking_of}
use Rattle.engine.specs.Relations.{Relations}
use Rattle.engine.specs.Steps.{blocking, waits, blocker, enabled, after, accepting}
use Rattle.engine.specs.Enabled.{enabled_set, marked, is_true}
use Rattle.engine.specs.Replay.{ending, replay_from}

-- as far as the rules ask: one of the two is any byte, the other a number that a set can hold
abbrev pub BySource : Relation → Relation → Type 0
BySource a b = (s t : ℕ) → s < 256 → t < width → a s t ≡ b s t

abbrev pub ByTarget : Relation → Relation → Type 0
ByTarget a b = (s t : ℕ) → s < width → t < 256 → a s t ≡ b s t

pub record Agree (q r : Relations) : Type 0 where
  pub conditions : ByTarget q.conditions r.conditions
  pub responses : BySource q.responses r.responses
  pub includes : BySource q.includes r.includes
  pub excludes : BySource q.excludes r.excludes

module _ (events : Set) (q r : Relations) (same : Agree q r) where
  pub enabled-same : (m : State) (e : ℕ) → e < 256 → enabled events q m e ≡ enabled events r m e
  unfolding enabled waits blocker
  enabled-same m e l =
      let each : (s : ℕ) → s < width → blocking q m e s ≡ blocking r m e s =
      λ s h. ap (λ (t : Bool). t and mem m.included s and non (mem m.executed s)) (same.conditions s e h l) in
      let waiting = some-ext width (blocking q m e) (blocking r m e) each in
      let least = least-ext width (blocking q m e) (blocking r m e) each in
      λ i. when non (mem events e) then NoEvent else when non (mem m.included e) then NotIncluded
      else when waiting i then Waiting (record { 0 = least i })
      else Done

  pub after_same : (m : State) (e : ℕ) → e < 256 → after q m e ≡ after r m e
  unfolding after
  after_same m e l =
      let pending = those-ext
      (λ a. mem m.pending a and non (eqb a e) or q.responses e a)
      (λ a. mem m.pending a and non (eqb a e) or r.responses e a)
      (λ a h. ap (λ (t : Bool). mem m.pending a and non (eqb a e) or t) (same.responses e a l h)) in
      let included = those-ext
      (λ a. mem m.included a and non (q.excludes e a) or q.includes e a)
      (λ a. mem m.included a and non (r.excludes e a) or r.includes e a)
      (λ a h i. mem m.included a and non (same.excludes e a l h i) or same.includes e a l h i) in
      λ i. state_of (those (λ a. mem m.executed a or eqb a e)) (pending i) (included i)

  -- so the same activities are enabled, and the same markings are true
  set_same : (s : State) → enabled_set events q s ≡ enabled_set events r s
  unfolding enabled_set
  set_same s =
      those-ext (λ e. is_done (enabled events q s e)) (λ e. is_done (enabled events r s e)) (λ e l. ap is_done (enabled-same s e (omega arith)))

  pub marked-same : (s : State) → marked events q s ≡ marked events r s
  marked-same s j = marking_of s (set_same s j)

  pub true_same : (m : Marking) → is_true events q m ≡ is_true events r m
  unfolding is_true
  true_same m j = within m.enabled (set_same m.state j) and within (set_same m.state j) m.enabled

  pub replay-same : (s : State) (i : ℕ) (trace : List ℕ) → ((k : ℕ) → get_or trace k 0 < 256)
      → replay_from events q s i trace ≡ replay_from events r s i trace
  unfolding replay_from
  replay-same s i [] bytes = λ j. ending Done i (marked-same s j) (accepting s)
  replay-same s i (e ∷ es) bytes =
      let l : e < 256 = bytes 0 in
      let asked = enabled-same s e l in
      let rest = replay-same (after q s e) (i + 1) es (λ k. bytes (suc k)) in
      let moved = after_same s e l in
      let stays = marked-same s in
      (λ j. when is_done (asked j) then rest j else ending (asked j) i (stays j) false)
      ∙ (λ j. when is_done (enabled events r s e) then replay_from events r (moved j) (i + 1) es
      else ending (enabled events r s e) i (marked events r s) false)

  -- and with them what the engines answer, where the judgements x and y are the same
  module _ (x y : Answer) (judged : x ≡ y) (m : Marking) (e : ℕ) (l : e < 256) where
    pub asked-same : then_ask x (enabled events q m.state e) ≡ then_ask y (enabled events r m.state e)
    asked-same j = then_ask (judged j) (enabled-same m.state e l j)

    pub stepped_same : ◌≡◌ {A = Stepped}
        (record {
          answer = then_ask x (enabled events q m.state e);
          marking = when is_done (then_ask x (enabled events q m.state e)) then marked events q (after q m.state e)
              else m;
        })
        (record {
          answer = then_ask y (enabled events r m.state e);
          marking = when is_done (then_ask y (enabled events r m.state e)) then marked events r (after r m.state e)
              else m;
        })
    stepped_same =
        let moved = marked-same (after q m.state e) ∙ ap (marked events r) (after_same m.state e l) in
        λ j. record { answer = asked-same j; marking = when is_done (asked-same j) then moved j else m }

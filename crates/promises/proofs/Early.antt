-- A replay gives 3, 5 and 16 only for what is judged before the first event: an event is refused with 8, 9 or 10. Assumes nothing.
use mathlib.Core.Path.{◌≡◌, refl, sym, ap, ◌∙◌}
use mathlib.Core.Bool.{Bool, true, false}
use mathlib.Core.Logic.{◌⊎◌}
use mathlib.Core.List.{List}
use Prim.Native.Nat.{ℕ}
use lib.Dec.{eqb}
use lib.ListN.{length}
use Rattle.sets.specs.Tests.{◌or◌, non, when◌then◌else◌}
use Rattle.sets.specs.Members.{mem}
use Rattle.sets.specs.Answers.{number_of, is_done}
use Rattle.sets.specs.declared.set.Set.{Set}
use Rattle.sets.specs.declared.activity.Activity.{Activity}
use Rattle.sets.specs.declared.answer.Answer.{Answer}
use Rattle.sets.specs.declared.answer.Answer.TheVariants.{Done, NoEvent, NotIncluded, Waiting}
use Rattle.sets.proofs.Tests.{T→true, F→false, split, either, true→T, false→F}
use Rattle.sets.proofs.Asking.{done-is}
use Rattle.engine.specs.Markings.{empty_marking}
use Rattle.engine.specs.Relations.{Relations, relations_of}
use Rattle.engine.specs.Steps.{waits, blocker, enabled}
use Rattle.engine.specs.Judged.{judged_for}
use Rattle.engine.specs.Replay.{ending, replay_from, replay_of}
use Rattle.engine.specs.declared.marking.State.{State}
use Rattle.engine.specs.declared.graph.Graph.{Graph}
use Rattle.engine.specs.declared.replay.Replayed.{Replayed}
use Rattle.promises.specs.Demanded.{Refused}
use Rattle.promises.proofs.StepForStep.{stops_at}

-- 3, 5 or 16
unfoldable early : Answer → Bool
early a = eqb (number_of a) 3 or eqb (number_of a) 5 or eqb (number_of a) 16

enabled-late : (events : Set) (r : Relations) (m : State) (e : ℕ) → early (enabled events r m e) ≡ false
unfolding enabled early ◌or◌
enabled-late events r m e = by (non (mem events e)) (non (mem m.included e)) (waits r m e) (blocker r m e)
  where
    by : (a b c : Bool) (s : Activity) → early (when a then NoEvent else when b then NotIncluded else when c then Waiting s else Done) ≡ false
    by true b c s = refl
    by false true c s = refl
    by false false true s = refl
    by false false false s = refl

module _ (g : Graph) (σ : List ℕ) (r : Replayed) (h : r ≡ replay_of g σ) where
  -- a graph that is not refused is replayed
  pub replay-runs : judged_for g (length σ) ≡ Done → r ≡ replay_from g.head.events (relations_of g) g.head.opening.state 0 σ
  unfolding replay_of
  replay-runs d =
      h ∙ ap (λ (a : Answer). when is_done a then replay_from g.head.events (relations_of g) g.head.opening.state 0 σ else ending a 0 empty_marking false) d

  -- and one that is refused gives nothing else
  pub replay-not : Refused (judged_for g (length σ)) → r ≡ ending (judged_for g (length σ)) 0 empty_marking false
  unfolding replay_of
  replay-not n =
      h
      ∙ ap (λ (t : Bool). when t then replay_from g.head.events (relations_of g) g.head.opening.state 0 σ else ending (judged_for g (length σ)) 0 empty_marking false) n

  runs-late : judged_for g (length σ) ≡ Done → early r.answer ≡ false
  unfolding early ◌or◌
  runs-late d =
      either (split (is_done r.answer))
      (λ y. ap early (done-is r.answer (T→true _ y)))
      (λ n.
      let s = stops_at g.head.events (relations_of g) g.head.opening.state σ r (replay-runs d) (F→false _ n) in
      ap early (sym s.refusal) ∙ enabled-late g.head.events (relations_of g) r.marking.state _)

  pub early-nothing : (number_of r.answer ≡ 3) ⊎ ((number_of r.answer ≡ 5) ⊎ (number_of r.answer ≡ 16)) → r ≡ ending r.answer 0 empty_marking false
  unfolding early ◌or◌
  early-nothing x =
      either (split (is_done (judged_for g (length σ))))
      (λ y.
      let yes : ℕ → Bool = λ n. eqb n 3 or eqb n 5 or eqb n 16 in
      absurd (false→F (runs-late (done-is _ (T→true _ y)))
      (either x (λ e. true→T (ap yes e)) (λ z. either z (λ e. true→T (ap yes e)) (λ e. true→T (ap yes e))))))
      (λ n.
      let e = replay-not (F→false _ n) in
      e ∙ ap (λ (a : Answer). ending a 0 empty_marking false) (sym (ap (λ (q : Replayed). q.answer) e)))

-- 02, 8/12, the program `call`: what `shut_by` gives for a step that a replay has shut out. `ShutByGives g σ a e` says that the function may give e
-- for the relations of a graph, a trace and an activity, by its own contract. Assumes nothing.
use mathlib.Core.Path.{◌≡◌, refl, sym, ap, ap₂, subst, ◌∙◌}
use mathlib.Core.Bool.{Bool, true, false}
use mathlib.Core.Logic.{◌⊎◌, inl, inr}
use mathlib.Core.List.{List, [], ◌∷◌}
use Prim.Native.Nat.{ℕ, ◌+◌, ◌<◌}
use lib.ListN.{length}
use Rattle.sets.specs.Tests.{◌and◌, ◌or◌, non, when◌then◌else◌}
use Rattle.sets.specs.Members.{width, mem}
use Rattle.sets.specs.Answers.{is_done}
use Rattle.sets.specs.declared.activity.Activity.{Activity}
use Rattle.sets.specs.declared.set.Set.{Set}
use Rattle.sets.specs.declared.answer.Answer.{Answer}
use Rattle.sets.proofs.Tests.{true→T, false→F, either}
use Rattle.sets.proofs.Members.{mem-those}
use Rattle.engine.specs.Markings.{empty_marking}
use Rattle.engine.specs.Relations.{Relations, in_tables, relations_of}
use Rattle.engine.specs.Steps.{enabled, after}
use Rattle.engine.specs.Judged.{judged_for}
use Rattle.engine.specs.Enabled.{marked}
use Rattle.engine.specs.Replay.{ending, replay_from, replay_of}
use Rattle.engine.specs.declared.marking.State.{State}
use Rattle.engine.specs.declared.marking.Marking.{Marking}
use Rattle.engine.specs.declared.graph.Graph.{Graph}
use Rattle.engine.specs.declared.replay.Replayed.{Replayed}
use Rattle.finish.specs.Shut.{nothing, shut_after, shut_from, shut_by}
use Rattle.finish.proofs.shut.shut_by.Reads as shut_by
use Rattle.promises.proofs.Contracts.{Gives, Holding, ReplayGives, replay-said}

-- e is an event of the trace
abbrev pub In : ℕ → List ℕ → Type 0
In e [] = ⊥
In e (x ∷ σ) = (e ≡ x) ⊎ In e σ

-- e is an event of the trace that excludes a
abbrev pub Shutter : Relations → List ℕ → ℕ → ℕ → Type 0
Shutter r σ a e = In e σ × (r.excludes e a ≡ true)

-- included before, excluded by e, included by e: where a is out after e, e shut it out, or it was out and e left it so
choices : (i x n : Bool) (e last : ℕ) → (i and non x or n) ≡ false
    → (((when n then nothing else when x then e else last) ≡ e) × (x ≡ true)) ⊎ ((i ≡ false) × ((when n then nothing else when x then e else last) ≡ last))
unfolding ◌and◌ ◌or◌ non
choices true false n e last h = absurd (false→F h tt)
choices true true true e last h = absurd (false→F h tt)
choices true true false e last h = inl (refl, refl)
choices false x true e last h = absurd (false→F h tt)
choices false true false e last h = inl (refl, refl)
choices false false false e last h = inr (refl, refl)

module _ (events : Set) (r : Relations) (a : ℕ) (l : a < width) where
  one-step : (m : State) (last e : ℕ) → mem (after r m e).included a ≡ false
      → ((shut_after r a last e ≡ e) × (r.excludes e a ≡ true)) ⊎ ((mem m.included a ≡ false) × (shut_after r a last e ≡ last))
  unfolding after shut_after
  one-step m last e out =
      choices (mem m.included a) (r.excludes e a) (r.includes e a) e last
      (sym (mem-those (λ b. mem m.included b and non (r.excludes e b) or r.includes e b) a l) ∙ out)

  next : (σ : List ℕ) (m : State) (e last : ℕ)
      → Shutter r σ a (shut_from r a (shut_after r a last e) σ)
      ⊎ ((mem (after r m e).included a ≡ false) × (shut_from r a (shut_after r a last e) σ ≡ shut_after r a last e))
      → Shutter r (e ∷ σ) a (shut_from r a (shut_after r a last e) σ)
      ⊎ ((mem m.included a ≡ false) × (shut_from r a (shut_after r a last e) σ ≡ last))
  next σ m e last h =
      either h (λ s. inl (inr s.0, s.1))
      (λ k.
      either (one-step m last e k.0)
      (λ o. inl (inl (k.1 ∙ o.0), ap (λ (x : ℕ). r.excludes x a) (k.1 ∙ o.0) ∙ o.1))
      (λ o. inr (o.0, k.1 ∙ o.1)))

  branch : {P : Type 0} (t : Bool) (x : Answer) (R : Replayed) (i : ℕ) (m : Marking) → is_done x ≡ t
      → is_done (when t then R else ending x i m false).answer ≡ true
      → mem (when t then R else ending x i m false).marking.state.included a ≡ false
      → (is_done R.answer ≡ true → mem R.marking.state.included a ≡ false → P) → P
  branch true x R i m p ok out f = f ok out
  branch false x R i m p ok out f = absurd (false→F p (true→T ok))

  told : (σ : List ℕ) (m : State) (i last : ℕ) → is_done (replay_from events r m i σ).answer ≡ true
      → mem (replay_from events r m i σ).marking.state.included a ≡ false
      → Shutter r σ a (shut_from r a last σ) ⊎ ((mem m.included a ≡ false) × (shut_from r a last σ ≡ last))
  unfolding replay_from shut_from
  told [] m i last ok out = inr (out, refl)
  told (e ∷ σ) m i last ok out =
      next σ m e last
      (branch (is_done (enabled events r m e)) (enabled events r m e) (replay_from events r (after r m e) (i + 1) σ) i
      (marked events r m) refl ok out (told σ (after r m e) (i + 1) (shut_after r a last e)))

  -- after a replay that was done, from a marking that includes a to one that does not, it is an event of the trace that excludes a
  pub shut-event : (σ : List ℕ) (m : State) → is_done (replay_from events r m 0 σ).answer ≡ true → mem m.included a ≡ true
      → mem (replay_from events r m 0 σ).marking.state.included a ≡ false → Shutter r σ a (shut_by r σ a)
  unfolding shut_by
  shut-event σ m ok was out = either (told σ m 0 nothing ok out) (λ s. s) (λ k. absurd (false→F k.0 (true→T was)))

abbrev pub ShutByGives : Graph → List ℕ → Activity → Activity → Type 0
ShutByGives g σ a e = Holding g.relations (λ tables. Holding σ (λ trace. Gives shut_by.Post (λ κ. (tables, (trace, (a, tt)))) (λ κ. e)))

shut-by-said : (g : Graph) (σ : List ℕ) (a e : Activity) → ShutByGives g σ a e → e.0 ≡ shut_by (relations_of g) σ a.0
shut-by-said g σ a e c = c.2.2.2 ∙ ap₂ (λ (t s : List ℕ). shut_by (in_tables t) s a.0) c.1 c.2.1

-- where the opening marking includes a and a replay that was done ends with a not included, what is given is an event of its trace, and excludes a
pub shut-by-shutter : (g : Graph) (σ : List ℕ) (a e : Activity) (p : Replayed) → ShutByGives g σ a e → ReplayGives g σ p → a.0 < width
    → is_done p.answer ≡ true → mem g.head.opening.state.included a.0 ≡ true → mem p.marking.state.included a.0 ≡ false
    → Shutter (relations_of g) σ a.0 e.0
unfolding replay_of
shut-by-shutter g σ a e p c d l ok was out =
    let same = replay-said g σ p d in
    let events = g.head.events in
    let r = relations_of g in
    subst (λ (n : ℕ). Shutter r σ a.0 n) (sym (shut-by-said g σ a e c))
    (branch events r a.0 l (is_done (judged_for g (length σ))) (judged_for g (length σ)) (replay_from events r g.head.opening.state 0 σ) 0
    empty_marking refl (ap (λ (x : Replayed). is_done x.answer) (sym same) ∙ ok)
    (ap (λ (x : Replayed). mem x.marking.state.included a.0) (sym same) ∙ out)
    (λ done gone. shut-event events r a.0 l σ g.head.opening.state done was gone))

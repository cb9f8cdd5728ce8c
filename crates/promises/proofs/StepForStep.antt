-- A replay goes step for step: it stops at the first event that is refused, or every event is enabled in its turn. Assumes nothing.
use mathlib.Core.Path.{◌≡◌, refl, sym, ap, subst, ◌∙◌}
use mathlib.Core.Bool.{Bool, false}
use mathlib.Core.List.{List, [], ◌∷◌}
use Prim.Native.Nat.{ℕ, zero, suc, ◌+◌, ◌<◌}
use native.Mathlib.Nat.{add-zero, zero-add, zero-lt-suc, not-suc-le-zero, le_of_suc-le-suc}
use native.Mathlib.Omega.{arith}
use lib.ListN.{length, get_or, take}
use Rattle.sets.specs.Tests.{when◌then◌else◌}
use Rattle.sets.specs.Answers.{is_done}
use Rattle.sets.specs.declared.set.Set.{Set}
use Rattle.sets.specs.declared.answer.Answer.{Answer}
use Rattle.sets.specs.declared.answer.Answer.TheVariants.{Done}
use Rattle.sets.proofs.Tests.{T→true, F→false, split, either, true→T, false→F}
use Rattle.sets.proofs.Asking.{done-is}
use Rattle.engine.specs.Relations.{Relations}
use Rattle.engine.specs.Steps.{enabled, after, accepting}
use Rattle.engine.specs.Enabled.{marked}
use Rattle.engine.specs.Replay.{ending, replay_from}
use Rattle.engine.specs.declared.marking.State.{State}
use Rattle.engine.specs.declared.replay.Replayed.{Replayed}
use Rattle.promises.specs.Demanded.{Refused, StopsAt, GoesThrough}

module _ (events : Set) (r : Relations) where
  abbrev ran : State → ℕ → List ℕ → Replayed
  ran m i σ = replay_from events r m i σ

  -- ---- one event

  module _ (m : State) (i e : ℕ) (es : List ℕ) where
    goes_on : enabled events r m e ≡ Done → ran m i (e ∷ es) ≡ ran (after r m e) (i + 1) es
    unfolding replay_from
    goes_on h = ap (λ (a : Answer). when is_done a then ran (after r m e) (i + 1) es else ending a i (marked events r m) false) h

    stops : Refused (enabled events r m e) → ran m i (e ∷ es) ≡ ending (enabled events r m e) i (marked events r m) false
    unfolding replay_from
    stops h = ap (λ (t : Bool). when t then ran (after r m e) (i + 1) es else ending (enabled events r m e) i (marked events r m) false) h

  by-event : (m : State) (e : ℕ) {C : Type 0} → (enabled events r m e ≡ Done → C) → (Refused (enabled events r m e) → C) → C
  by-event m e f g = either (split (is_done (enabled events r m e))) (λ y. f (done-is _ (T→true _ y))) (λ n. g (F→false _ n))

  -- ---- a refusal, at n places after i

  record Stopped (m : State) (i : ℕ) (σ : List ℕ) (end : Replayed) : Type 0 where
    n : ℕ
    within-trace : n < length σ
    there : end.place.0 ≡ i + n
    earlier : (ran m i (take n σ)).answer ≡ Done
    marking-then : (ran m i (take n σ)).marking ≡ end.marking
    refusal : enabled events r end.marking.state (get_or σ n 0) ≡ end.answer
    not-accepting : end.accepting ≡ false

  nothing_left : (m : State) (i : ℕ) → Refused (ran m i []).answer → ⊥
  unfolding replay_from
  nothing_left m i h = false→F h tt

  stopped : (m : State) (i : ℕ) (σ : List ℕ) → Refused (ran m i σ).answer → Stopped m i σ (ran m i σ)
  stopped m i [] h = absurd (nothing_left m i h)
  stopped m i (e ∷ es) h = by-event m e (λ y. later y (λ k. stopped (after r m e) (i + 1) es k)) here
    where
      here : Refused (enabled events r m e) → Stopped m i (e ∷ es) (ran m i (e ∷ es))
      here x =
          subst (Stopped m i (e ∷ es)) (sym (stops m i e es x))
          (record {
            n = 0;
            within-trace = zero-lt-suc _;
            there = sym (add-zero i);
            earlier = unfold replay_from in refl;
            marking-then = unfold replay_from in refl;
            refusal = refl;
            not-accepting = refl;
          })

      later : enabled events r m e ≡ Done → (Refused (ran (after r m e) (i + 1) es).answer → Stopped (after r m e) (i + 1) es (ran (after r m e) (i + 1) es))
          → Stopped m i (e ∷ es) (ran m i (e ∷ es))
      later y ih =
          let s = ih (ap (λ (x : Replayed). is_done x.answer) (sym (goes_on m i e es y)) ∙ h) in
          let first : ran m i (e ∷ take s.n es) ≡ ran (after r m e) (i + 1) (take s.n es) = goes_on m i e (take s.n es) y in
          subst (Stopped m i (e ∷ es)) (sym (goes_on m i e es y))
          (record {
            n = suc s.n;
            within-trace = let l = s.within-trace in omega arith;
            there = let p = s.there in omega arith;
            earlier = ap (λ (x : Replayed). x.answer) first ∙ s.earlier;
            marking-then = ap (λ (x : Replayed). x.marking) first ∙ s.marking-then;
            refusal = s.refusal;
            not-accepting = s.not-accepting;
          })

  -- ---- no refusal

  abbrev Turn : State → ℕ → List ℕ → ℕ → Type 0
  Turn m i σ n = ((ran m i (take n σ)).answer ≡ Done) × (enabled events r (ran m i (take n σ)).marking.state (get_or σ n 0) ≡ Done)

  first_done : (m : State) (i e : ℕ) (es : List ℕ) → (ran m i (e ∷ es)).answer ≡ Done → enabled events r m e ≡ Done
  first_done m i e es h =
      by-event m e (λ y. y) (λ n. absurd (false→F (ap (λ (x : Replayed). is_done x.answer) (stops m i e es n) ∙ n) (true→T (ap is_done h))))

  turns : (m : State) (i : ℕ) (σ : List ℕ) → (ran m i σ).answer ≡ Done → (n : ℕ) → n < length σ → Turn m i σ n
  turns m i [] h n l = absurd (not-suc-le-zero l)
  turns m i (e ∷ es) h zero l = (unfold replay_from in refl, unfold replay_from in first_done m i e es h)
  turns m i (e ∷ es) h (suc n) l =
      let y = first_done m i e es h in
      let t = turns (after r m e) (i + 1) es (ap (λ (x : Replayed). x.answer) (sym (goes_on m i e es y)) ∙ h) n (le_of_suc-le-suc l) in
      let first : ran m i (e ∷ take n es) ≡ ran (after r m e) (i + 1) (take n es) = goes_on m i e (take n es) y in (
        ap (λ (x : Replayed). x.answer) first ∙ t.0,
        ap (λ (x : Replayed). enabled events r x.marking.state (get_or es n 0)) first ∙ t.1,
      )

  through : (m : State) (i : ℕ) (σ : List ℕ) → (ran m i σ).answer ≡ Done → ((ran m i σ).place.0 ≡ i + length σ) × ((ran m i σ).accepting ≡ accepting (ran m i σ).marking.state)
  through m i [] h = (unfold replay_from in sym (add-zero i), unfold replay_from in refl)
  through m i (e ∷ es) h =
      let on = goes_on m i e es (first_done m i e es h) in
      let t = through (after r m e) (i + 1) es (ap (λ (x : Replayed). x.answer) (sym on) ∙ h) in
      let p = t.0 in
      let q : (ran m i (e ∷ es)).place.0 ≡ (ran (after r m e) (i + 1) es).place.0 = ap (λ (x : Replayed). x.place.0) on in (
        omega arith,
        ap (λ (x : Replayed). x.accepting) on ∙ t.1 ∙ ap (λ (x : Replayed). accepting x.marking.state) (sym on),
      )

  -- ---- a whole replay

  module _ (opening : State) (σ : List ℕ) (end : Replayed) (h : end ≡ ran opening 0 σ) where
    pub stops_at : Refused end.answer → StopsAt events r opening σ end
    stops_at n =
        subst (StopsAt events r opening σ) (sym h)
        (let s = stopped opening 0 σ (ap (λ (x : Replayed). is_done x.answer) (sym h) ∙ n) in
        let at : (ran opening 0 σ).place.0 ≡ s.n = s.there ∙ zero-add s.n in
        record {
          within-trace = subst (λ (k : ℕ). k < length σ) (sym at) s.within-trace;
          earlier = ap (λ (k : ℕ). (ran opening 0 (take k σ)).answer) at ∙ s.earlier;
          marking-then = ap (λ (k : ℕ). (ran opening 0 (take k σ)).marking) at ∙ s.marking-then;
          refusal = ap (λ (k : ℕ). enabled events r (ran opening 0 σ).marking.state (get_or σ k 0)) at ∙ s.refusal;
          not-accepting = s.not-accepting;
        })

    pub goes_through : end.answer ≡ Done → GoesThrough events r opening σ end
    goes_through y =
        let d : (ran opening 0 σ).answer ≡ Done = ap (λ (x : Replayed). x.answer) (sym h) ∙ y in
        let t = through opening 0 σ d in
        subst (GoesThrough events r opening σ) (sym h)
        (record {
          at-end = t.0 ∙ zero-add (length σ);
          in-turn = record { earlier = λ n l. (turns opening 0 σ d n l).0; enabled-then = λ n l. (turns opening 0 σ d n l).1 };
          accepting-then = t.1;
        })

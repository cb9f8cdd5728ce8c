-- What the definitions of the search say of finishing sequences: a way of n steps is one, and the first of its length; where a sequence
-- of n steps finishes, there is a way of n steps. Assumes nothing.
use mathlib.Core.Path.{◌≡◌, refl, sym, ap, subst, ◌∙◌}
use mathlib.Core.List.{List, [], ◌∷◌}
use Prim.Native.Nat.{ℕ, zero, suc, ◌≤◌, ◌<◌}
use native.Mathlib.Nat.{not-suc-le-zero, le_of_suc-le-suc}
use native.Mathlib.Omega.{arith}
use borrow.Author.Tests.{ltb-true, ltb-false}
use lib.Dec.{T, eqb, ltb}
use lib.ListN.{length, get_or}
use Rattle.sets.specs.Tests.{◌and◌, ◌or◌}
use Rattle.sets.specs.Members.{width, mem, least_below}
use Rattle.sets.specs.declared.set.Set.{Set}
use Rattle.sets.proofs.Tests.{and_l, and_r, and_i, or_l, or_r, T→true, F→false, false→F, eqb_of, split, either}
use Rattle.sets.proofs.Below.{some-i, least-is, least_lt, least-before}
use Rattle.sets.proofs.Members.{Whole, whole-low}
use Rattle.engine.specs.declared.marking.State.{State}
use Rattle.engine.specs.Relations.{Relations}
use Rattle.engine.specs.Steps.{after}
use Rattle.finish.specs.Ways.{most_steps, can_finish, begins, way_of, fewest, unused}
use Rattle.finish.proofs.Settling.{enabled-live}
use Rattle.finish.specs.Sequences.{finishes, no_later, WayOut, NoWay}

module _ (events : Set) (r : Relations) where
  -- ---- a way is a finishing sequence

  pub way-length_lem : (n : ℕ) (m : State) → length (way_of events r n m) ≡ n
  unfolding way_of
  way-length_lem zero m = refl
  way-length_lem (suc n) m = ap suc (way-length_lem n (after r m (least_below width (begins events r n m))))

  pub way-finishes : (n : ℕ) (m : State) → T (can_finish events r n m) → T (finishes events r m (way_of events r n m))
  unfolding can_finish way_of finishes
  way-finishes zero m t = t
  way-finishes (suc n) m t =
      let h = least-is width (begins events r n m) (least_lt width (begins events r n m) t) in
      and_i _ _ (and_l _ _ h) (way-finishes n (after r m (least_below width (begins events r n m))) (and_r _ _ h))

  pub finishing-events : (σ : List ℕ) (m : State) → T (finishes events r m σ) → (k : ℕ) → k < length σ → T (mem events (get_or σ k unused))
  unfolding finishes
  finishing-events [] m t k l = absurd (not-suc-le-zero l)
  finishing-events (a ∷ σ) m t zero l = (enabled-live events r m a (and_l _ _ t)).0
  finishing-events (a ∷ σ) m t (suc k) l = finishing-events σ (after r m a) (and_r _ _ t) k (le_of_suc-le-suc l)

  -- ---- any finishing sequence, where the events are a set as the code has it

  module _ (w : Whole events) where
    pub finishes-can : (σ : List ℕ) (m : State) → T (finishes events r m σ) → T (can_finish events r (length σ) m)
    unfolding can_finish finishes
    finishes-can [] m t = t
    finishes-can (a ∷ σ) m t =
        some-i width (begins events r (length σ) m) a (whole-low events w a (enabled-live events r m a (and_l _ _ t)).0)
        (and_i _ _ (and_l _ _ t) (finishes-can σ (after r m a) (and_r _ _ t)))

    -- the way comes no later than any other of its length
    pub way-first : (σ : List ℕ) (m : State) → T (finishes events r m σ) → T (no_later (way_of events r (length σ) m) σ)
    unfolding finishes no_later way_of
    way-first [] m t = tt
    way-first (b ∷ σ) m t =
        by (least_below width (begins events r (length σ) m)) refl (way-first σ (after r m b) (and_r _ _ t))
      where
        begun : T (begins events r (length σ) m b)
        begun = and_i _ _ (and_l _ _ t) (finishes-can σ (after r m b) (and_r _ _ t))

        by : (a : ℕ) → a ≡ least_below width (begins events r (length σ) m) → T (no_later (way_of events r (length σ) (after r m b)) σ)
            → T (ltb a b or eqb a b and no_later (way_of events r (length σ) (after r m a)) σ)
        by a e ih =
            either (split (ltb a b)) (λ l. or_l _ _ l)
            (λ g.
            let high : b ≤ a = ltb-false a b (F→false _ g) in
            let low : a ≤ b = either (split (ltb b a))
            (λ l.
            let before = subst (λ (k : ℕ). b < k) e (ltb-true b a (T→true _ l)) in
            absurd (false→F (least-before width (begins events r (length σ) m) b before) begun))
            (λ l. ltb-false b a (F→false _ l)) in
            let same : a ≡ b = omega arith in
            or_r _ _ (and_i _ _ (eqb_of same) (subst (λ (k : ℕ). T (no_later (way_of events r (length σ) (after r m k)) σ)) (sym same) ih)))

    -- ---- the fewest steps

    module _ (m : State) where
      below-fewest : (n : ℕ) → n < fewest events r m → T (can_finish events r n m) → ⊥
      unfolding fewest
      below-fewest n l t = false→F (least-before (suc most_steps) (λ k. can_finish events r k m) n l) t

      pub fewest-way : fewest events r m ≤ most_steps → WayOut events r m (way_of events r (fewest events r m) m)
      unfolding fewest
      fewest-way l =
          let n = fewest events r m in
          let long : length (way_of events r n m) ≡ n = way-length_lem n m in
          let ends = way-finishes n m (least-is (suc most_steps) (λ k. can_finish events r k m) (omega arith)) in
          record {
            few = omega arith;
            finishing = ends;
            used = finishing-events (way_of events r n m) m ends;
            shortest = λ τ t. either (split (ltb (length τ) n))
                (λ h. absurd (below-fewest (length τ) (ltb-true (length τ) n (T→true _ h)) (finishes-can τ m t)))
                (λ h. omega (arith, ltb-false (length τ) n (F→false _ h)));
            first = λ τ t e. subst (λ (k : ℕ). T (no_later (way_of events r k m) τ)) (e ∙ long) (way-first τ m t);
          }

      pub fewest-none : most_steps < fewest events r m → NoWay events r m
      fewest-none l σ few t = below-fewest (length σ) (omega arith) (finishes-can σ m t)

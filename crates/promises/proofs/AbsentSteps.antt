-- 02, 12/12, "mind a step absent in one month: its absence before another step counts in the year". A trace that has t and no s breaks the
-- condition from s to t for all traces that it is taken together with. Assumes nothing.
use mathlib.Core.Path.{◌≡◌}
use mathlib.Core.Bool.{false}
use mathlib.Core.Logic.{◌⊎◌, inl, inr}
use mathlib.Core.List.{List, [], ◌∷◌, Memᴰ}
use Prim.Native.Nat.{ℕ}
use lib.Dec.{T}
use Rattle.sets.proofs.Tests.{and_l, and_r, or-e, or_l, or_r, imp-e, F→false, either}
use Rattle.rules.specs.declared.Profile.{Profile}
use Rattle.rules.specs.declared.Profile.TheVariants.{Full, Light}
use Rattle.rules.specs.Traces.{Traces, ◌has◌, at_each_from}
use Rattle.rules.specs.Mining.{no_pair, no_relations, ◌without◌, event, ◌with◌, precedes, reduced, after_five, after_six, after_seven, after_eight}
use Rattle.rules.specs.Mining.{step1, step2, step3, step4, step5, step6, step7, step8}
use Rattle.rules.proofs.Places.{every_of, some-of_lem, some-trace_lem}

-- where each t has an s before it, a t has an s in its trace
module _ (s t : ℕ) where
  somewhere : (past rest : List ℕ) → T (rest has t) → T (at_each_from t (λ q r. q has s) past rest) → T (past has s) ⊎ T (rest has s)
  unfolding at_each_from ◌has◌
  somewhere past [] h k = absurd h
  somewhere past (x ∷ rest) h k =
      either (or-e _ _ h)
      (λ e. inl (imp-e _ _ (and_l _ _ k) e))
      (λ l. either (somewhere (x ∷ past) rest l (and_r _ _ k))
      (λ p. either (or-e _ _ p) (λ e. inr (or_l _ _ e)) (λ q. inl q))
      (λ r. inr (or_r _ _ r)))

module _ (L : Traces) (s t : ℕ) where
  not-preceded : (σ : List ℕ) → Memᴰ σ L → T (σ has t) → (T (σ has s) → ⊥) → T (precedes L s t) → ⊥
  unfolding precedes ◌has◌
  not-preceded σ m h n p = either (somewhere s t [] σ h (every_of _ m p)) (λ a. a) n

  -- a condition after step 8 is one of step 2
  of-step-2 : (p : Profile) → T ((after_eight L p).conditions s t) → T (precedes L s t)
  unfolding after_eight step8 reduced ◌without◌ after_seven step7 after_six step6 after_five step5 step4 step3 step2 step1 no_relations no_pair ◌with◌
  of-step-2 Full h = either (or-e _ _ (and_r _ _ (and_l _ _ h))) (λ a. absurd a) (λ a. and_r _ _ a)
  of-step-2 Light h = either (or-e _ _ (and_r _ _ (and_l _ _ h))) (λ a. absurd a) (λ a. and_r _ _ a)

  -- by a trace
  pub absent-in-trace : (p : Profile) (σ : List ℕ) → Memᴰ σ L → T (σ has t) → (T (σ has s) → ⊥) → (after_eight L p).conditions s t ≡ false
  absent-in-trace p σ m h n = F→false _ (λ c. not-preceded σ m h n (of-step-2 p c))

  -- by a month whose traces are among these: t is an event of it, and s is not
  pub absent-in-month : (p : Profile) (month : Traces) → ((σ : List ℕ) → Memᴰ σ month → Memᴰ σ L)
      → T (event month t) → (T (event month s) → ⊥) → (after_eight L p).conditions s t ≡ false
  unfolding event
  absent-in-month p month among h n =
      let r = some-trace_lem month (λ σ. σ has t) h in
      absent-in-trace p r.0 (among r.0 r.1) r.2 (λ k. n (some-of_lem (λ σ. σ has s) r.1 k))

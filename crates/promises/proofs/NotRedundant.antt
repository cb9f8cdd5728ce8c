-- EXCLUSIONS THAT WERE NOT REDUNDANT (02, 7/12), as theorems about `mine`, for any accepted log and in both profiles: of the exclusions that stand
-- when step 7 begins, those and only those are missing in the mined graph that some u makes redundant; the includes that it asks about are the
-- graph's own; and no exclusion is lost that the step 7 of 01 kept. Demands 2 and 3 are in Demands, as they stood. The trainers' story is
-- computed in rules/proofs/Story and stands in the table of rules/proofs/Cases. Assumes nothing.
use mathlib.Core.Path.{◌≡◌, sym}
use mathlib.Core.Bool.{false}
use mathlib.Core.List.{List}
use Prim.Native.Nat.{ℕ}
use lib.Dec.{T}
use Rattle.sets.specs.Tests.{◌and◌, non}
use Rattle.sets.specs.Answers.{number_of}
use Rattle.sets.proofs.Tests.{and_l, and_r, and_i, non-i, non-e, T-eq, F→false}
use Rattle.engine.specs.Relations.{Relations, relations_of}
use Rattle.calllog.specs.Logs.{log_of}
use Rattle.rules.specs.declared.Profile.{Profile}
use Rattle.rules.specs.Traces.{Traces}
use Rattle.rules.specs.Mining.{event, some_event, ◌without◌, between, let_in_between, makes_redundant, step7, step8, step9, step10}
use Rattle.rules.specs.Mining.{after_six, after_seven, after_eight, mined}
use Rattle.rules.proofs.Why.{Small, some-event_lem, the-event}
use Rattle.rules.proofs.Acceptable.{small, mined-reasons}
use Rattle.rules.proofs.FromFile.{file-accepted}
use Rattle.rules.proofs.Story.{step7_of01, mined_of01}
use Rattle.miner.specs.declared.mining.Mined.{Mined}
use Rattle.promises.specs.Redundant.{Redundant}
use Rattle.promises.proofs.Contracts.{MineGives}
use Rattle.promises.proofs.Demands.{mine-pairs}

-- the test of the rules says what the words say
module _ (L : Traces) (small : Small L) (g : Relations) (only : (v t : ℕ) → T (g.includes v t) → T (event L v)) (u s t : ℕ) where
  redundant-e : T (event L u) → T (makes_redundant L g u s t) → Redundant L g u s t
  unfolding makes_redundant let_in_between
  redundant-e e h =
      record {
        an-event = e;
        excludes-it = and_l _ _ (and_l _ _ (and_l _ _ h));
        ahead = and_r _ _ (and_l _ _ (and_l _ _ h));
        not-including = non-e _ (and_r _ _ (and_l _ _ h));
        not-let-in = λ v i b. non-e _ (and_r _ _ h) (some-event_lem L _ v (small v (only v t i)) (only v t i) (and_i _ _ b i));
      }

  redundant-i : Redundant L g u s t → T (makes_redundant L g u s t)
  unfolding makes_redundant let_in_between
  redundant-i r =
      and_i _ _ (and_i _ _ (and_i _ _ r.excludes-it r.ahead) (non-i _ r.not-including))
      (non-i _ (λ h. let v = the-event L (λ w. between L u w s and g.includes w t) h in
      r.not-let-in v.0 (and_r _ _ v.2) (and_l _ _ v.2)))

module _ (bytes : List ℕ) (p : Profile) (r : Mined) (c : MineGives bytes p r) (d : number_of r.answer ≡ 0) where
  abbrev L : Traces
  L = (log_of bytes).traces

  -- the relations that step 7 begins with
  abbrev six : Relations
  six = after_six L p

  below : Small L
  below = small (log_of bytes).activities L (file-accepted bytes)

  -- the includes that step 7 asks about are those of the graph
  pub the-includes : (s t : ℕ) → (relations_of r.graph).includes s t ≡ six.includes s t
  unfolding mined step10 step9 after_eight step8 after_seven step7
  the-includes s t = (mine-pairs bytes p r c d).includes s t

  of-events : (v t : ℕ) → T (six.includes v t) → T (event L v)
  unfolding mined step10 step9 after_eight step8 after_seven step7
  of-events v t h = ((mined-reasons (log_of bytes).activities L (file-accepted bytes) p).include v t h).0

  excludes-are : (s t : ℕ) → (relations_of r.graph).excludes s t ≡ (six.excludes s t and non (some_event L (λ u. makes_redundant L six u s t)))
  unfolding mined step10 step9 after_eight step8 after_seven step7 ◌without◌
  excludes-are s t = (mine-pairs bytes p r c d).excludes s t

  -- a pair that some u makes redundant is not in the graph
  pub redundant-goes : (u s t : ℕ) → Redundant L six u s t → (relations_of r.graph).excludes s t ≡ false
  redundant-goes u s t k =
      F→false _
      (λ h. non-e _ (and_r _ _ (T-eq (excludes-are s t) h))
      (some-event_lem L _ u (below u k.an-event) k.an-event (redundant-i L below six of-events u s t k)))

  -- a pair that step 7 begins with, and that no u makes redundant, is in the graph
  pub others-stay : (s t : ℕ) → T (six.excludes s t) → ((u : ℕ) → Redundant L six u s t → ⊥) → T ((relations_of r.graph).excludes s t)
  others-stay s t h none =
      T-eq (sym (excludes-are s t))
      (and_i _ _ h (non-i _ (λ k. let u = the-event L (λ w. makes_redundant L six w s t) k in
      none u.0 (redundant-e L below six of-events u.0 s t u.1 u.2))))

  -- and the graph has no others
  pub no-others : (s t : ℕ) → T ((relations_of r.graph).excludes s t) → T (six.excludes s t)
  no-others s t h = and_l _ _ (T-eq (excludes-are s t) h)

  -- what the step 7 of 01 kept is kept
  pub none-lost : (s t : ℕ) → T ((mined_of01 L p).excludes s t) → T ((relations_of r.graph).excludes s t)
  unfolding mined_of01 step10 step9 step8 step7_of01 ◌without◌ makes_redundant
  none-lost s t h =
      T-eq (sym (excludes-are s t))
      (and_i _ _ (and_l _ _ h)
      (non-i _ (λ k. let u = the-event L (λ w. makes_redundant L six w s t) k in
      non-e _ (and_r _ _ h) (some-event_lem L _ u.0 (below u.0 u.1) u.1 (and_l _ _ (and_l _ _ u.2))))))

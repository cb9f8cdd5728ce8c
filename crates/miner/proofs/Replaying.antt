-- One turn of the pass of step 9: the sets that it keeps, and what the rows of the event gain. Assumes nothing.
use mathlib.Core.Path.{◌≡◌, refl, sym, ap, ap₂, ◌∙◌}
use mathlib.Core.Bool.{Bool}
use mathlib.Core.List.{List, []}
use Prim.Native.Nat.{ℕ, ◌+◌, ◌≤◌, ◌<◌}
use native.Mathlib.Omega.{arith}
use lib.Dec.{eqb}
use lib.ListN.{length, get_or, drop}
use Rattle.sets.specs.Tests.{◌and◌, ◌or◌, non}
use Rattle.sets.specs.Members.{mem, those, no_set}
use Rattle.sets.specs.Rows.{row_at, in_row}
use Rattle.sets.specs.declared.set.Set.{Set}
use Rattle.sets.proofs.Members.{those-of, those-ext}
use Rattle.sets.proofs.Tautologies.{by3, by4}
use Rattle.rules.specs.Traces.{◌has◌}
use Rattle.tally.specs.Passes.{gained_for, gains_in, forward, reaches, cut}
use Rattle.miner.specs.Facts.{before_first, still_included, missed}
use Rattle.tally.proofs.Turns.{past_at, past_next, seen_in, seen_none, seen_next, joined_by, gains-below, forward-next, forward-end}
use Rattle.sets.proofs.MadeSets.{is-those}

-- ---- what a turn's functions give
-- what e excludes goes, then what it includes comes
pub included-by : (wide : Bool) (included kept r row-in come out-row : Set) (includes excludes : List ℕ) (e : ℕ)
    → out-row ≡ row_at excludes e → kept ≡ those (λ x. mem included x and non (mem out-row x))
    → row-in ≡ row_at includes e → come ≡ those (λ x. reaches wide x and mem row-in x) → r ≡ those (λ x. mem kept x or mem come x)
    → r ≡ those (λ x. mem included x and non (in_row excludes e x) or reaches wide x and in_row includes e x)
unfolding in_row
included-by wide included kept r row-in come out-row includes excludes e ho hk hi hc hr =
    hr ∙ those-of kept (λ x. mem included x and non (mem out-row x)) (λ x t. t or mem come x) hk
    ∙ those-of come (λ x. reaches wide x and mem row-in x) (λ x t. mem included x and non (mem out-row x) or t) hc
    ∙ ap (λ (s : Set). those (λ x. mem included x and non (mem s x) or reaches wide x and mem row-in x)) ho
    ∙ ap (λ (s : Set). those (λ x. mem included x and non (mem (row_at excludes e) x) or reaches wide x and mem s x)) hi

-- a row joined with what the form holds of a set that is known
pub formed-by : (wide : Bool) (rows : List ℕ) (e : ℕ) (q : ℕ → Bool) (s c : Set) (rows' : List ℕ) → s ≡ those q
    → c ≡ those (λ x. reaches wide x and mem s x) → rows' ≡ gained_for wide rows e (mem c) → rows' ≡ gained_for wide rows e (λ x. reaches wide x and q x)
formed-by wide rows e q s c rows' hs hc h =
    joined_by wide rows e (λ x. reaches wide x and q x) c rows' (hc ∙ those-of s q (λ x t. reaches wide x and t) hs) h

-- ---- the loop, in either form: what holds before each turn, and that a turn keeps it

-- the set of what is included after a past
abbrev open_after : Bool → Set → List ℕ → List ℕ → List ℕ → Set
open_after wide events includes excludes past = those (λ x. reaches wide x and still_included events includes excludes past x)

pub record Replayed (wide : Bool) (σ : List ℕ) (events : Set) (includes excludes first₀ unmet₀ first unmet : List ℕ) (seen included : Set) (i : ℕ) : Type 0 where
  pub reached : i ≤ length σ
  pub seen-is : seen ≡ seen_in (past_at σ i)
  pub included-is : included ≡ open_after wide events includes excludes (past_at σ i)
  pub ahead : forward (gains_in wide before_first) first (past_at σ i) (drop i σ) ≡ forward (gains_in wide before_first) first₀ [] σ
  pub waiting : forward (gains_in wide (missed events includes excludes)) unmet (past_at σ i) (drop i σ)
      ≡ forward (gains_in wide (missed events includes excludes)) unmet₀ [] σ

pub replay-start : (wide : Bool) (σ : List ℕ) (events : Set) (includes excludes first unmet : List ℕ) (included : Set)
    → included ≡ those (λ x. reaches wide x and mem events x) → Replayed wide σ events includes excludes first unmet first unmet no_set included 0
unfolding still_included
replay-start wide σ events includes excludes first unmet included h =
    record { reached = omega arith; seen-is = seen_none; included-is = h; ahead = refl; waiting = refl }

module _ {wide : Bool} {σ : List ℕ} {events : Set} {includes excludes first₀ unmet₀ first unmet : List ℕ} {seen included : Set} {i : ℕ}
    (inv : Replayed wide σ events includes excludes first₀ unmet₀ first unmet seen included i) where
  pub replay-end : length σ ≤ i → (first ≡ forward (gains_in wide before_first) first₀ [] σ)
      × (unmet ≡ forward (gains_in wide (missed events includes excludes)) unmet₀ [] σ)
  replay-end h = (forward-end _ _ _ _ _ h inv.ahead, forward-end _ _ _ _ _ h inv.waiting)

  pub replay-turn : i < length σ → (first' unmet' : List ℕ) (then seen' : Set)
      → then ≡ those (λ x. mem included x and non (in_row excludes (get_or σ i 0) x) or reaches wide x and in_row includes (get_or σ i 0) x)
      → (first' ≡ gained_for wide first (get_or σ i 0) (λ x. reaches wide x and (mem seen x and non (mem seen (get_or σ i 0)))))
      × (unmet' ≡ gained_for wide unmet (get_or σ i 0) (λ x. mem included x and non (mem seen x)))
      → seen' ≡ those (λ x. mem seen x or eqb x (get_or σ i 0))
      → Replayed wide σ events includes excludes first₀ unmet₀ first' unmet' seen' then (i + 1)
  unfolding cut before_first missed still_included
  replay-turn h first' unmet' then seen' ht (hf, hu) hs =
      let seen-in = is-those seen (λ x. past_at σ i has x) inv.seen-is in
      let included-in = is-those included (λ x. reaches wide x and still_included events includes excludes (past_at σ i) x) inv.included-is in
      record {
        reached = omega arith;
        seen-is = seen_next σ i h seen inv.seen-is seen' hs;
        included-is =
            ht
            ∙ those-of included (λ x. reaches wide x and still_included events includes excludes (past_at σ i) x)
            (λ x t. t and non (in_row excludes (get_or σ i 0) x) or reaches wide x and in_row includes (get_or σ i 0) x) inv.included-is
            ∙ those-ext _ _ (λ x l. by4 (λ g s o i. g and s and non o or g and i) (λ g s o i. g and (s and non o or i)) (unfold ◌and◌ ◌or◌ non in tt)
            (reaches wide x) (still_included events includes excludes (past_at σ i) x) _ _)
            ∙ ap (open_after wide events includes excludes) (sym (past_next σ i h));
        ahead = forward-next (gains_in wide before_first) σ _ i first first' h
            (gains-below wide before_first first (get_or σ i 0) (past_at σ i) (drop (i + 1) σ) _ first'
            (λ l x k. ap₂ (λ (s t : Bool). reaches wide x and (s and non t)) (seen-in x k) (seen-in (get_or σ i 0) l)) hf)
            inv.ahead;
        waiting = forward-next (gains_in wide (missed events includes excludes)) σ _ i unmet unmet' h
            (gains-below wide (missed events includes excludes) unmet (get_or σ i 0) (past_at σ i) (drop (i + 1) σ) _ unmet'
            (λ l x k. ap₂ (λ (s t : Bool). s and non t) (included-in x k) (seen-in x k)
            ∙ by3 (λ g s h. g and s and non h) (λ g s h. g and (non h and s)) (unfold ◌and◌ ◌or◌ non in tt) (reaches wide x) _ _) hu)
            inv.waiting;
      }

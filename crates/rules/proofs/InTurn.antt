-- At a place of a trace of the log, for any relations with reasons: the event there is included in its turn, its conditions are met, and
-- its responses stand later. Assumes nothing.
use mathlib.Core.Path.{◌≡◌, sym, subst}
use mathlib.Core.List.{List, [], ◌∷◌, reverse_aux, Memᴰ}
use Prim.Native.Nat.{ℕ}
use lib.Dec.{T, eqb→eq, eqb_refl}
use Rattle.sets.proofs.Tests.{and_r, and_i, or-e, or_l, or_r, non-i, non-e, split, either}
use Rattle.engine.specs.Relations.{Relations}
use Rattle.rules.specs.Traces.{Traces, ◌has◌, ◌begins_with◌}
use Rattle.rules.specs.Mining.{event, at_most_once, precedes, answers, chained, together, before, followed, between, directly_before, included_after, never_missed}
use Rattle.rules.proofs.Places.{each_at, some_at, has_first, has_rest, has-past, every_of, some-of_lem}
use Rattle.rules.proofs.Why.{Events, Why, once, chain, apart, over, next, Reasons}

pub is-event : (L : Traces) (a : ℕ) {σ : List ℕ} → Memᴰ σ L → T (σ has a) → T (event L a)
unfolding event
is-event L a m h = some-of_lem (λ σ. σ has a) m h

module _ (L : Traces) (g : Relations) where
  -- ---- x stands directly before t: if x does not include t, nothing before t excludes t

  module _ (x t : ℕ) (past rest : List ℕ) (m : Memᴰ (reverse_aux past (x ∷ t ∷ rest)) L) where
    earlier : (y : ℕ) → T ((x ∷ past) has y) → T (reverse_aux past (x ∷ t ∷ rest) has y)
    earlier y h = has-past y (x ∷ past) (t ∷ rest) h

    here : T (reverse_aux past (x ∷ t ∷ rest) has t)
    here = has_rest t (x ∷ past) (t ∷ rest) (has_first t rest)

    events : Events L x t
    events = (is-event L x m (earlier x (has_first x past)), is-event L t m here)

    directly : T (followed L x t)
    unfolding followed ◌begins_with◌
    directly = some-of_lem _ m (some_at t _ (x ∷ past) rest (eqb_refl x))

    middle : (y : ℕ) → T (past has y) → T (between L y x t)
    unfolding between
    middle y h = some-of_lem _ m (some_at x _ past (t ∷ rest) (and_i _ _ h (has_first t rest)))

    not-why : (T (g.includes x t) → ⊥) → (y : ℕ) → T ((x ∷ past) has y) → Why L g.includes y t → ⊥
    unfolding at_most_once chained together before directly_before ◌has◌ ◌begins_with◌
    not-why ni y hy (once e o) =
        let o' : T (at_most_once L t) = subst (λ (z : ℕ). T (at_most_once L z)) e o in
        non-e _ (each_at t _ (x ∷ past) rest (every_of _ m o')) (subst (λ (z : ℕ). T ((x ∷ past) has z)) e hy)
    not-why ni y hy (chain e u c i) =
        let ux : u ≡ x = eqb→eq u x (each_at t _ (x ∷ past) rest (every_of _ m (and_r _ _ c))) in
        ni (subst (λ (z : ℕ). T (g.includes z t)) ux i)
    not-why ni y hy (apart a) = non-e _ a (some-of_lem _ m (and_i _ _ (earlier y hy) here))
    not-why ni y hy (over a) = non-e _ a (some-of_lem _ m (some_at t _ (x ∷ past) rest hy))
    not-why ni y hy (next a lets-in) =
        either (or-e _ _ hy)
        (λ e. non-e _ a (subst (λ (z : ℕ). T (followed L z t)) (sym (eqb→eq y x e)) directly))
        (λ k. ni (lets-in x events.0 (middle y k)))

  -- what nothing of the past excludes stays included
  stays : (t : ℕ) (past : List ℕ) → T (event L t) → ((y : ℕ) → T (past has y) → T (g.excludes y t) → ⊥) → T (included_after L g past t)
  unfolding included_after ◌has◌
  stays t [] et f = et
  stays t (x ∷ past) et f = or_l _ _ (and_i _ _ (stays t past et (λ y h. f y (or_r _ _ h))) (non-i _ (f x (or_l _ _ (eqb_refl x)))))

  -- ---- what the engine will ask at a place

  module _ (why : Reasons L g) where
    pub included-here : (t : ℕ) (past rest : List ℕ) → Memᴰ (reverse_aux past (t ∷ rest)) L → T (included_after L g past t)
    unfolding included_after
    included-here t [] rest m = is-event L t m (has_first t rest)
    included-here t (x ∷ past) rest m =
        either (split (g.includes x t)) (λ i. or_r _ _ i)
        (λ ni. stays t (x ∷ past) (events x t past rest m).1 (λ y h e. not-why x t past rest m ni y h (why.exclude y t e).1))

    pub condition-here : (s t : ℕ) (past rest : List ℕ) → Memᴰ (reverse_aux past (t ∷ rest)) L
        → T (g.conditions s t) → T (included_after L g past s) → T (past has s)
    unfolding precedes never_missed
    condition-here s t past rest m h i =
        either (why.condition s t h).1
        (λ p. each_at t _ past rest (every_of _ m p))
        (λ q. either (or-e _ _ (each_at t _ past rest (every_of _ m q))) (λ a. a) (λ b. absurd (non-e _ b i)))

    pub response-here : (s t : ℕ) (past rest : List ℕ) → Memᴰ (reverse_aux past (s ∷ rest)) L → T (g.responses s t) → T (rest has t)
    unfolding answers
    response-here s t past rest m h = each_at s _ past rest (every_of _ m (why.response s t h).1)

-- Why a pair stands in the relations, and that it is a pair of events. `Reasons` is all that demand 3 asks of relations; it is shown here
-- of those after step 8 and of the mined ones, in both profiles at once. Of step 7 it is used only that it takes pairs away. Assumes that
-- the events are below the width.
use mathlib.Core.Path.{◌≡◌, refl, ap}
use mathlib.Core.Bool.{Bool}
use mathlib.Core.Logic.{◌⊎◌, inl, inr}
use mathlib.Core.List.{List, [], ◌∷◌}
use Prim.Native.Nat.{ℕ, ◌<◌}
use lib.Dec.{T, eqb→eq}
use Rattle.sets.specs.Tests.{◌and◌, ◌or◌, non}
use Rattle.sets.specs.Members.{width}
use Rattle.sets.specs.Rows.{Relation}
use Rattle.sets.proofs.Tests.{and_l, and_r, and_i, or-e, or_l, or_r, T-eq, either}
use Rattle.sets.proofs.Below.{some-i, some-e}
use Rattle.engine.specs.Relations.{Relations}
use Rattle.rules.specs.declared.Profile.{Profile}
use Rattle.rules.specs.declared.Profile.TheVariants.{Full, Light}
use Rattle.rules.specs.Traces.{Traces, ◌has◌, at_each, every_trace}
use Rattle.rules.specs.Mining.{no_pair, no_relations, smallest_source, ◌without◌, event, some_event, ◌with◌, at_most_once, precedes, answers, together, before, followed, between, step1, step2, directly_before, step3, never_together, step4, closes, step5, step6, step7, reduced, step8, included_after, never_missed, step9, step10, after_five, after_six, after_seven, after_eight, mined}

-- both are events
abbrev pub Events : Traces → ℕ → ℕ → Type 0
Events L s t = T (event L s) × T (event L t)

module _ (L : Traces) (s t : ℕ) where
  with-events : (r p : Relation) → T (◌with◌ L r p s t) → Events L s t
  unfolding ◌with◌
  with-events r p h = (and_l _ _ (and_l _ _ h), and_r _ _ (and_l _ _ h))

  with-e : (r p : Relation) → T (◌with◌ L r p s t) → T (r s t) ⊎ T (p s t)
  unfolding ◌with◌
  with-e r p h = or-e _ _ (and_r _ _ h)

  with-l : (r p : Relation) → Events L s t → T (r s t) → T (◌with◌ L r p s t)
  unfolding ◌with◌
  with-l r p e h = and_i _ _ (and_i _ _ e.0 e.1) (or_l _ _ h)

  with-r : (r p : Relation) → Events L s t → T (p s t) → T (◌with◌ L r p s t)
  unfolding ◌with◌
  with-r r p e h = and_i _ _ (and_i _ _ e.0 e.1) (or_r _ _ h)

module _ (L : Traces) (p : ℕ → Bool) where
  pub some-event_lem : (u : ℕ) → u < width → T (event L u) → T (p u) → T (some_event L p)
  unfolding some_event
  some-event_lem u l e h = some-i width _ u l (and_i _ _ e h)

  pub the-event : T (some_event L p) → (u : ℕ) × T (event L u) × T (p u)
  unfolding some_event
  the-event h = let r = some-e width _ h in (r.0, and_l _ _ r.2, and_r _ _ r.2)

-- why s may exclude t: at a t of the log either no s has been, or what stands directly before that t lets it in again
pub data Why (L : Traces) (includes : Relation) (s t : ℕ) : Type 0 where
  once : s ≡ t → T (at_most_once L s) → Why L includes s t
  chain : s ≡ t → (u : ℕ) → T (directly_before L u t) → T (includes u t) → Why L includes s t
  apart : T (non (together L s t)) → Why L includes s t
  over : T (non (before L s t)) → Why L includes s t
  next : T (non (followed L s t)) → ((u : ℕ) → T (event L u) → T (between L s u t) → T (includes u t)) → Why L includes s t

-- each pair is one of events and has its reason in the log
pub record Reasons (L : Traces) (g : Relations) : Type 0 where
  pub condition : (s t : ℕ) → T (g.conditions s t) → Events L s t × (T (precedes L s t) ⊎ T (never_missed L g s t))
  pub response : (s t : ℕ) → T (g.responses s t) → Events L s t × T (answers L s t)
  pub include : (s t : ℕ) → T (g.includes s t) → Events L s t
  pub exclude : (s t : ℕ) → T (g.excludes s t) → Events L s t × Why L g.includes s t

-- ---- after step 5

module _ (L : Traces) (s t : ℕ) where
  condition-five : T ((after_five L).conditions s t) → Events L s t × T (precedes L s t)
  unfolding after_five step5 step4 step3 step2 step1 no_relations no_pair
  condition-five h = (with-events L s t _ _ h, either (with-e L s t _ _ h) (λ a. absurd a) (λ a. and_r _ _ a))

  response-five : T ((after_five L).responses s t) → Events L s t × T (answers L s t)
  unfolding after_five step5 step4 step3 step2 step1 no_relations no_pair
  response-five h = (with-events L s t _ _ h, either (with-e L s t _ _ h) (λ a. absurd a) (λ a. and_r _ _ a))

  include-five : T ((after_five L).includes s t) → Events L s t
  unfolding after_five step5 step4 step3
  include-five h = with-events L s t _ _ h

  chain-five : Events L s t → T (directly_before L s t) → T ((after_five L).includes s t)
  unfolding after_five step5 step4 step3
  chain-five e c = with-r L s t _ _ e c

  -- whichever includes there will be, if those of step 3 are among them
  exclude-five : (includes : Relation) → ((u : ℕ) → T ((after_five L).includes u t) → T (includes u t))
      → T ((after_five L).excludes s t) → Events L s t × Why L includes s t
  unfolding after_five step5 step4 step3 step2 step1 no_relations no_pair smallest_source never_together closes
  exclude-five includes more h =
      let e = with-events L s t _ _ h in (
        e,
        either (with-e L s t _ _ h)
            (λ a. either (with-e L s t _ _ a)
            (λ a. either (with-e L s t _ _ a)
            (λ a. either (with-e L s t _ _ a)
            (λ a. absurd a)
            (λ b. once (eqb→eq s t (and_l _ _ b)) (and_r _ _ b)))
            (λ b. let r = the-event L _ (and_r _ _ b) in
            chain (eqb→eq s t (and_l _ _ b)) r.0 r.2 (more r.0 (with-r L r.0 t _ _ (r.1, e.1) r.2))))
            (λ b. apart (and_r _ _ (and_l _ _ b))))
            (λ b. over (and_r _ _ (and_l _ _ (and_l _ _ b)))),
      )

-- ---- after step 6, made or skipped

abbrev pub Small : Traces → Type 0
Small L = (a : ℕ) → T (event L a) → a < width

module _ (L : Traces) where
  condition-six : (p : Profile) (s t : ℕ) → T ((after_six L p).conditions s t) → Events L s t × T (precedes L s t)
  unfolding after_six step6
  condition-six Full s t h = condition-five L s t h
  condition-six Light s t h = condition-five L s t h

  response-six : (p : Profile) (s t : ℕ) → T ((after_six L p).responses s t) → Events L s t × T (answers L s t)
  unfolding after_six step6
  response-six Full s t h = response-five L s t h
  response-six Light s t h = response-five L s t h

  include-six : (p : Profile) (s t : ℕ) → T ((after_six L p).includes s t) → Events L s t
  unfolding after_six step6
  include-six Full s t h = with-events L s t _ _ h
  include-six Light s t h = include-five L s t h

  -- step 6 itself lets in again what it excludes
  exclude-six : Small L → (p : Profile) (s t : ℕ) → T ((after_six L p).excludes s t) → Events L s t × Why L (after_six L p).includes s t
  unfolding after_six step6
  exclude-six small Full s t h =
      let e = with-events L s t _ _ h in
      either (with-e L s t _ _ h)
      (λ a. exclude-five L s t _ (λ u i. with-l L u t _ _ (include-five L u t i) i) a)
      (λ b. (e, next b (λ u eu m. with-r L u t _ _ (eu, e.1) (some-event_lem L _ s (small s e.0) e.0 (and_i _ _ b m)))))
  exclude-six small Light s t h = exclude-five L s t _ (λ u i. i) h

  -- ---- after step 8, and after all

  pub reasons-eight : Small L → (p : Profile) → Reasons L (after_eight L p)
  unfolding after_eight step8 reduced ◌without◌ after_seven step7
  reasons-eight small p =
      record {
        condition = λ s t h. let r = condition-six p s t (and_l _ _ h) in (r.0, inl r.1);
        response = λ s t h. response-six p s t (and_l _ _ h);
        include = λ s t h. include-six p s t h;
        exclude = λ s t h. exclude-six small p s t (and_l _ _ h);
      }

  -- step 9 asks of the includes and excludes that stay
  same-included : (p : Profile) (past : List ℕ) (s : ℕ) → included_after L (after_eight L p) past s ≡ included_after L (mined L p) past s
  unfolding included_after mined step10 step9
  same-included p [] s = refl
  same-included p (x ∷ past) s =
      ap (λ (b : Bool). b and non ((after_eight L p).excludes x s) or (after_eight L p).includes x s) (same-included p past s)

  still-missed : (p : Profile) (s t : ℕ) → T (never_missed L (after_eight L p) s t) → T (never_missed L (mined L p) s t)
  unfolding never_missed
  still-missed p s t h = T-eq (λ i. every_trace L (at_each t (λ past rest. past has s or non (same-included p past s i)))) h

  pub reasons : Small L → (p : Profile) → Reasons L (mined L p)
  unfolding mined step10 step9 reduced ◌without◌
  reasons small p =
      let b = reasons-eight small p in
      record {
        condition = λ s t h.
            let k = and_l _ _ h in (
              with-events L s t _ _ k,
              either (with-e L s t _ _ k)
                  (λ a. either (b.condition s t a).1 (λ x. inl x) (λ x. inr (still-missed p s t x)))
                  (λ a. inr (still-missed p s t (and_r _ _ a))),
            );
        response = b.response;
        include = b.include;
        exclude = b.exclude;
      }

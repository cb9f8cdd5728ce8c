-- A mined graph by its few pairs: where a log's activities are below n, its graph is the one listed if the two agree at pairs below n. So a table of worked
-- cases computes n × n pairs, and not all that the width allows. Assumes nothing.
use mathlib.Core.Path.{◌≡◌, refl, sym, subst}
use mathlib.Core.Bool.{Bool, true}
use mathlib.Core.List.{List, [], ◌∷◌}
use Prim.Native.Nat.{ℕ, zero, suc, ◌≤◌, ◌<◌}
use native.Mathlib.Nat.{lt_of_lt_of_le}
use borrow.Author.Tests.{ltb-true}
use lib.Dec.{T, eqb→eq, ltb}
use Rattle.sets.specs.Tests.{◌and◌, ◌or◌, non}
use Rattle.sets.specs.Members.{width, those, no_set, every_below, bits_of}
use Rattle.sets.specs.Rows.{Relation}
use Rattle.sets.proofs.Tests.{T-ext, and_l, and_r, or-e, imp-e, T→true, either}
use Rattle.sets.proofs.Below.{every-e}
use Rattle.sets.proofs.Members.{those-ext}
use Rattle.sets.proofs.TableLaws.{tables_of-ext}
use Rattle.engine.specs.Markings.{state_of}
use Rattle.engine.specs.Relations.{relation_count, kept}
use Rattle.engine.specs.Enabled.{graph_at}
use Rattle.rules.specs.declared.Profile.{Profile}
use Rattle.rules.specs.Traces.{Traces, ◌has◌, every_trace, some_trace}
use Rattle.rules.specs.Mining.{event, mined}
use Rattle.rules.specs.Mined.{graph_from, mined_graph}
use Rattle.rules.proofs.Why.{Events, Reasons, reasons}
use Rattle.rules.proofs.Listed.{Pair, ◌to◌, one_of, set_of, listed}

-- ---- what is computed

unfoldable pub same : Bool → Bool → Bool
same a b = (non a or b) and (non b or a)

-- all are below n
unfoldable pub few : ℕ → List ℕ → Bool
few n [] = true
few n (x ∷ xs) = ltb x n and few n xs

unfoldable pub few_pairs : ℕ → List Pair → Bool
few_pairs n [] = true
few_pairs n ((a to b) ∷ ps) = ltb a n and ltb b n and few_pairs n ps

-- two relations agree at pairs below n
unfoldable pub agree : ℕ → Relation → Relation → Bool
agree n r q = every_below n (λ s. every_below n (λ t. same (r s t) (q s t)))

-- ---- and what follows

same-e : (a b : Bool) → T (same a b) → a ≡ b
unfolding same
same-e a b t = T-ext a b (imp-e a b (and_l _ _ t)) (imp-e b a (and_r _ _ t))

few-e : (n : ℕ) (xs : List ℕ) → T (few n xs) → (a : ℕ) → T (xs has a) → a < n
unfolding few ◌has◌
few-e n [] f a h = absurd h
few-e n (x ∷ xs) f a h =
    either (or-e _ _ h) (λ e. subst (λ (y : ℕ). y < n) (sym (eqb→eq a x e)) (ltb-true x n (T→true _ (and_l _ _ f)))) (λ k. few-e n xs (and_r _ _ f) a k)

pairs-e : (n : ℕ) (ps : List Pair) → T (few_pairs n ps) → (s t : ℕ) → T (one_of ps s t) → (s < n) × (t < n)
unfolding few_pairs
pairs-e n [] f s t h = absurd h
pairs-e n ((a to b) ∷ ps) f s t h =
    either (or-e _ _ h)
    (λ e. (
      subst (λ (y : ℕ). y < n) (eqb→eq a s (and_l _ _ e)) (ltb-true a n (T→true _ (and_l _ _ (and_l _ _ f)))),
      subst (λ (y : ℕ). y < n) (eqb→eq b t (and_r _ _ e)) (ltb-true b n (T→true _ (and_r _ _ (and_l _ _ f)))),
    ))
    (λ k. pairs-e n ps (and_r _ _ f) s t k)

-- an event of a log whose traces are below n
event-low : (n : ℕ) (L : Traces) → T (every_trace L (few n)) → (a : ℕ) → T (event L a) → a < n
unfolding event every_trace some_trace
event-low n [] f a h = absurd h
event-low n (σ ∷ L) f a h = either (or-e _ _ h) (λ k. few-e n σ (and_l _ _ f) a k) (λ k. event-low n L (and_r _ _ f) a k)

-- what holds below n alone is decided there
module _ (n : ℕ) where
  sets-agree : (p q : ℕ → Bool) → ((a : ℕ) → T (p a) → a < n) → ((a : ℕ) → T (q a) → a < n) → T (every_below n (λ a. same (p a) (q a))) → (a : ℕ) → p a ≡ q a
  sets-agree p q hp hq e a =
      T-ext (p a) (q a)
      (λ t. subst T (same-e _ _ (every-e n _ e a (hp a t))) t)
      (λ t. subst T (sym (same-e _ _ (every-e n _ e a (hq a t)))) t)

  relations-agree : (r q : Relation) → ((s t : ℕ) → T (r s t) → (s < n) × (t < n)) → ((s t : ℕ) → T (q s t) → (s < n) × (t < n))
      → T (agree n r q) → (s t : ℕ) → r s t ≡ q s t
  unfolding agree
  relations-agree r q hr hq e s t =
      let at : (s < n) × (t < n) → r s t ≡ q s t = λ l. same-e _ _ (every-e n _ (every-e n _ e s l.0) t l.1) in
      T-ext (r s t) (q s t) (λ h. subst T (at (hr s t h)) h) (λ h. subst T (sym (at (hq s t h))) h)

-- THE LAW
module _ (A n : ℕ) (low : n ≤ width) (L : Traces) (p : Profile) (events : List ℕ) (c r i e : List Pair) where
  -- the tests together
  unfoldable pub agrees : Bool
  agrees =
      every_trace L (few n) and few n events and every_below n (λ a. same (event L a) (events has a))
      and (few_pairs n c and agree n (mined L p).conditions (one_of c)) and (few_pairs n r and agree n (mined L p).responses (one_of r))
      and (few_pairs n i and agree n (mined L p).includes (one_of i)) and (few_pairs n e and agree n (mined L p).excludes (one_of e))

  module _ (t : T agrees) where
    traces : T (every_trace L (few n))
    unfolding agrees
    traces = and_l _ _ (and_l _ _ (and_l _ _ (and_l _ _ (and_l _ _ (and_l _ _ t)))))

    below : (a : ℕ) → T (event L a) → a < n
    below a h = event-low n L traces a h

    both : {s u : ℕ} → Events L s u → (s < n) × (u < n)
    both (h, k) = (below _ h, below _ k)

    why : Reasons L (mined L p)
    why = reasons L (λ a h. lt_of_lt_of_le (below a h) low) p

    the-events : those (event L) ≡ set_of events
    unfolding agrees
    the-events =
        those-ext (event L) (λ a. events has a)
        (λ a l. sets-agree n (event L) (λ x. events has x) below (few-e n events (and_r _ _ (and_l _ _ (and_l _ _ (and_l _ _ (and_l _ _ (and_l _ _ t)))))))
        (and_r _ _ (and_l _ _ (and_l _ _ (and_l _ _ (and_l _ _ t))))) a)

    of-list : (r q : Relation) (ps : List Pair) → q ≡ one_of ps → ((s u : ℕ) → T (r s u) → Events L s u) → T (few_pairs n ps and agree n r q) → (s u : ℕ) → r s u ≡ q s u
    of-list r q ps e h f =
        relations-agree n r q (λ s u k. both (h s u k)) (λ s u k. pairs-e n ps (and_l _ _ f) s u (subst (λ (g : Relation). T (g s u)) e k)) (and_r _ _ f)

    the-pairs : (k a b : ℕ) → kept (mined L p) k a b ≡ kept (record { conditions = one_of c; responses = one_of r; includes = one_of i; excludes = one_of e }) k a b
    unfolding agrees
    the-pairs zero a b = of-list _ _ c refl (λ s u h. (why.condition s u h).0) (and_r _ _ (and_l _ _ (and_l _ _ (and_l _ _ t)))) b a
    the-pairs (suc zero) a b = of-list _ _ r refl (λ s u h. (why.response s u h).0) (and_r _ _ (and_l _ _ (and_l _ _ t))) a b
    the-pairs (suc (suc zero)) a b = of-list _ _ i refl (λ s u h. why.include s u h) (and_r _ _ (and_l _ _ t)) a b
    the-pairs (suc (suc (suc k))) a b = of-list _ _ e refl (λ s u h. (why.exclude s u h).0) (and_r _ _ t) a b

    nobody : no_set ≡ set_of []
    unfolding those bits_of ◌has◌
    nobody = refl

    pub by-pairs : mined_graph A L p ≡ listed A events c r i e
    unfolding mined_graph graph_from
    by-pairs =
        λ j. graph_at A (the-events j) (state_of (nobody j) (nobody j) (the-events j))
        (tables_of-ext relation_count (kept (mined L p)) (kept (record { conditions = one_of c; responses = one_of r; includes = one_of i; excludes = one_of e }))
        (λ k a b lk la lb. the-pairs k a b) j)

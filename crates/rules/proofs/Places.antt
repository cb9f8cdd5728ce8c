-- Places of a trace. The trace `reverse_aux past (t ∷ rest)` has at one of its places a t, with this past and this rest; what a test says of
-- every place it says of this one, and what holds here holds at some place. Assumes nothing.
use mathlib.Core.Path.{◌≡◌, refl, sym, ap, subst}
use mathlib.Core.Bool.{Bool}
use mathlib.Core.List.{List, [], ◌∷◌, reverse_aux, Memᴰ}
use Prim.Native.Nat.{ℕ}
use lib.Dec.{T, eqb→eq, eqb_refl}
use Rattle.sets.proofs.Tests.{and_l, and_r, and_i, or-e, or_l, or_r, imp-e, T-ext, T-eq, either}
use Rattle.rules.specs.Traces.{Traces, ◌has◌, at_each_from, at_each, at_some_from, at_some, every_trace, some_trace}

module _ (t : ℕ) (p : List ℕ → List ℕ → Bool) where
  each_on : (past rest : List ℕ) → T (at_each t p (reverse_aux past rest)) → T (at_each_from t p past rest)
  unfolding at_each_from
  each_on [] rest h = h
  each_on (x ∷ past) rest h = and_r _ _ (each_on past (x ∷ rest) h)

  pub each_at : (past rest : List ℕ) → T (at_each t p (reverse_aux past (t ∷ rest))) → T (p past rest)
  unfolding at_each_from
  each_at past rest h = imp-e _ _ (and_l _ _ (each_on past (t ∷ rest) h)) (eqb_refl t)

  some-on : (past rest : List ℕ) → T (at_some_from t p past rest) → T (at_some t p (reverse_aux past rest))
  unfolding at_some_from
  some-on [] rest h = h
  some-on (x ∷ past) rest h = some-on past (x ∷ rest) (or_r _ _ h)

  pub some_at : (past rest : List ℕ) → T (p past rest) → T (at_some t p (reverse_aux past (t ∷ rest)))
  unfolding at_some_from
  some_at past rest h = some-on past (t ∷ rest) (or_l _ _ (and_i _ _ (eqb_refl t) h))

pub has_first : (a : ℕ) (rest : List ℕ) → T ((a ∷ rest) has a)
unfolding ◌has◌
has_first a rest = or_l _ _ (eqb_refl a)

pub has_rest : (a : ℕ) (past rest : List ℕ) → T (rest has a) → T (reverse_aux past rest has a)
unfolding ◌has◌
has_rest a [] rest h = h
has_rest a (x ∷ past) rest h = has_rest a past (x ∷ rest) (or_r _ _ h)

pub has-past : (a : ℕ) (past rest : List ℕ) → T (past has a) → T (reverse_aux past rest has a)
unfolding ◌has◌
has-past a [] rest h = absurd h
has-past a (x ∷ past) rest h =
    either (or-e _ _ h) (λ e. has_rest a past (x ∷ rest) (or_l _ _ e)) (λ k. has-past a past (x ∷ rest) k)

-- ---- a trace of a log

pub every_of : {σ : List ℕ} {L : Traces} (p : List ℕ → Bool) → Memᴰ σ L → T (every_trace L p) → T (p σ)
unfolding every_trace
every_of p (Memᴰ.head e) h = subst (λ (τ : List ℕ). T (p τ)) (sym e) (and_l _ _ h)
every_of p (Memᴰ.tail m) h = every_of p m (and_r _ _ h)

pub some-of_lem : {σ : List ℕ} {L : Traces} (p : List ℕ → Bool) → Memᴰ σ L → T (p σ) → T (some_trace L p)
unfolding some_trace
some-of_lem p (Memᴰ.head e) h = or_l _ _ (subst (λ (τ : List ℕ). T (p τ)) e h)
some-of_lem p (Memᴰ.tail m) h = or_r _ _ (some-of_lem p m h)

pub some-trace_lem : (L : Traces) (p : List ℕ → Bool) → T (some_trace L p) → (σ : List ℕ) × Memᴰ σ L × T (p σ)
unfolding some_trace
some-trace_lem [] p h = absurd h
some-trace_lem (σ ∷ L) p h =
    either (or-e _ _ h) (λ k. (σ, Memᴰ.head refl, k)) (λ k. let r = some-trace_lem L p k in (r.0, Memᴰ.tail r.1, r.2))

-- ---- the places of a log where an activity stands

module _ (u : ℕ) (p : List ℕ → List ℕ → Bool) where
  place-of_lem : (past rest : List ℕ) → T (at_some_from u p past rest)
      → (q : List ℕ) × (s : List ℕ) × (reverse_aux q (u ∷ s) ≡ reverse_aux past rest) × T (p q s)
  unfolding at_some_from
  place-of_lem past [] h = absurd h
  place-of_lem past (x ∷ rest) h =
      either (or-e _ _ h)
      (λ k. (past, rest, ap (λ (y : ℕ). reverse_aux past (y ∷ rest)) (eqb→eq u x (and_l _ _ k)), and_r _ _ k))
      (λ k. place-of_lem (x ∷ past) rest k)

  pub some-place : (L : Traces) → T (some_trace L (at_some u p))
      → (past : List ℕ) × (rest : List ℕ) × Memᴰ (reverse_aux past (u ∷ rest)) L × T (p past rest)
  some-place L h =
      let σ = some-trace_lem L (at_some u p) h in
      let k = place-of_lem [] σ.0 σ.2 in
      (k.0, k.1, subst (λ (τ : List ℕ). Memᴰ τ L) (sym k.2) σ.1, k.3)

  pub at-place_lem : (L : Traces) (past rest : List ℕ) → Memᴰ (reverse_aux past (u ∷ rest)) L → T (p past rest)
      → T (some_trace L (at_some u p))
  at-place_lem L past rest m h = some-of_lem (at_some u p) m (some_at u p past rest h)

-- two tests that agree at every place of the log where u stands
pub places-ext : (L : Traces) (u : ℕ) (p q : List ℕ → List ℕ → Bool)
    → ((past rest : List ℕ) → Memᴰ (reverse_aux past (u ∷ rest)) L → p past rest ≡ q past rest)
    → some_trace L (at_some u p) ≡ some_trace L (at_some u q)
places-ext L u p q e =
    T-ext _ _
    (λ h. let k = some-place u p L h in at-place_lem u q L k.0 k.1 k.2 (T-eq (e k.0 k.1 k.2) k.3))
    (λ h. let k = some-place u q L h in at-place_lem u p L k.0 k.1 k.2 (T-eq (sym (e k.0 k.1 k.2)) k.3))

-- What the rules ask of a log, in other words: what every place has, some place lacks; two activities stand together where one stands
-- before the other. Assumes nothing.
use mathlib.Core.Path.{◌≡◌, refl, sym, ap, ap₂, ◌∙◌}
use mathlib.Core.Bool.{Bool, false}
use mathlib.Core.List.{List, [], ◌∷◌}
use Prim.Native.Nat.{ℕ}
use lib.Dec.{T, eqb, eqb→eq}
use Rattle.sets.specs.Tests.{◌and◌, ◌or◌, non}
use Rattle.sets.proofs.Tests.{and_l, and_r, or_r, and_comm, non-non, non-and, and-false, or-false, F→false}
use Rattle.sets.proofs.Tautologies.{by2, by4, by5}
use Rattle.rules.specs.Traces.{Traces, ◌has◌, ◌begins_with◌, at_each_from, at_each, at_some_from, at_some, every_trace, some_trace}
use Rattle.rules.specs.Mining.{event, at_most_once, before, together, between}
use Rattle.rules.proofs.Places.{has_first, has_rest, some-place}
use Rattle.rules.proofs.InTurn.{is-event}

-- ---- every and some, of places and of traces

neither : (a b : Bool) → non (a or b) ≡ (non a and non b)
unfolding ◌and◌ ◌or◌ non
neither = by2 (λ a b. non (a or b)) (λ a b. non a and non b) tt

pub each-non : (t : ℕ) (p : List ℕ → List ℕ → Bool) (past rest : List ℕ) → at_each_from t (λ q r. non (p q r)) past rest
    ≡ non (at_some_from t p past rest)
unfolding at_each_from at_some_from non
each-non t p past [] = refl
each-non t p past (x ∷ rest) =
    ap₂ ◌and◌ (sym (non-and (eqb t x) (p past rest))) (each-non t p (x ∷ past) rest)
    ∙ sym (neither (eqb t x and p past rest) (at_some_from t p (x ∷ past) rest))

pub every-non : (L : Traces) (p q : List ℕ → Bool) → ((σ : List ℕ) → q σ ≡ non (p σ)) → every_trace L q ≡ non (some_trace L p)
unfolding every_trace some_trace non
every-non [] p q h = refl
every-non (σ ∷ L) p q h = ap₂ ◌and◌ (h σ) (every-non L p q h) ∙ sym (neither (p σ) (some_trace L p))

pub some-ext : (L : Traces) (p q : List ℕ → Bool) → ((σ : List ℕ) → p σ ≡ q σ) → some_trace L p ≡ some_trace L q
unfolding some_trace
some-ext [] p q h = refl
some-ext (σ ∷ L) p q h = ap₂ ◌or◌ (h σ) (some-ext L p q h)

pub some_or : (L : Traces) (p q : List ℕ → Bool) → some_trace L (λ σ. p σ or q σ) ≡ (some_trace L p or some_trace L q)
unfolding some_trace ◌and◌ ◌or◌ non
some_or [] p q = refl
some_or (σ ∷ L) p q =
    ap (λ (t : Bool). p σ or q σ or t) (some_or L p q)
    ∙ by4 (λ a b c d. a or b or (c or d)) (λ a b c d. a or c or (b or d)) tt (p σ) (q σ) (some_trace L p) (some_trace L q)

-- not at each place is at some place not
pub non-every : (t : ℕ) (p : List ℕ → List ℕ → Bool) (L : Traces) → non (every_trace L (at_each t p))
    ≡ some_trace L (at_some t (λ q s. non (p q s)))
non-every t p L =
    (λ i. non (every_trace L (at_each t (λ q s. sym (non-non (p q s)) i))))
    ∙ ap non
    (every-non L (at_some t (λ q s. non (p q s))) (at_each t (λ q s. non (non (p q s)))) (λ σ. each-non t (λ q s. non (p q s)) [] σ))
    ∙ non-non (some_trace L (at_some t (λ q s. non (p q s))))

-- ---- step 1: at most once is never before itself

pub once : (L : Traces) (s : ℕ) → at_most_once L s ≡ non (before L s s)
unfolding at_most_once before
once L s =
    every-non L (at_some_from s (λ past rest. past has s) []) (at_each_from s (λ past rest. non (past has s)) [])
    (λ σ. each-non s (λ past rest. past has s) [] σ)

-- ---- step 4: together is before, one way or the other

-- a pair is met at its second place with the first behind it, or it was open before, or it is met from its first place on
module _ (s t : ℕ) where
  pub later-from : (past rest : List ℕ)
      → at_some_from t (λ q r. q has s) past rest ≡ (past has s and rest has t or at_some_from s (λ q r. r has t) past rest)
  unfolding at_some_from ◌has◌
  later-from past [] = sym (or-false _ ∙ and-false (past has s))
  later-from past (x ∷ rest) =
      ap (λ (b : Bool). eqb t x and past has s or b) (later-from (x ∷ past) rest)
      ∙ by5 (λ e p m r a. e and p or ((m or p) and r or a)) (λ e p m r a. p and (e or r) or (m and r or a)) (unfold ◌and◌ ◌or◌ non in tt)
      (eqb t x) (past has s) (eqb s x) (rest has t) (at_some_from s (λ q r. r has t) (x ∷ past) rest)

  pub later-all : (σ : List ℕ) → at_some t (λ q r. q has s) σ ≡ at_some s (λ q r. r has t) σ
  unfolding ◌and◌ ◌or◌ ◌has◌
  later-all σ = later-from [] σ

  pub next-from : (past rest : List ℕ)
      → at_some_from t (λ q r. q begins_with s) past rest
      ≡ (past begins_with s and rest begins_with t or at_some_from s (λ q r. r begins_with t) past rest)
  unfolding at_some_from ◌begins_with◌
  next-from past [] = sym (or-false _ ∙ and-false (past begins_with s))
  next-from past (x ∷ rest) = ap₂ ◌or◌ (and_comm (eqb t x) (past begins_with s)) (next-from (x ∷ past) rest)

pub before-later : (L : Traces) (a x : ℕ) → some_trace L (at_some a (λ q r. r has x)) ≡ before L a x
unfolding before
before-later L a x = some-ext L (at_some a (λ q r. r has x)) (at_some x (λ q r. q has a)) (λ σ. sym (later-all a x σ))

-- of two that are not the same one stands first
both_ways : (es et hs ht b c : Bool) → (es and et) ≡ false → (hs and ht) ≡ (b or c)
    → ((es or hs) and (et or ht)) ≡ (es and ht or b or (et and hs or c))
unfolding ◌and◌ ◌or◌ non
both_ways es et hs ht b c d h =
    by4 (λ v w x y. (v or x) and (w or y)) (λ v w x y. v and w or (v and y or w and x or x and y)) tt es et hs ht
    ∙ ap₂ (λ (x y : Bool). x or (es and ht or et and hs or y)) d h
    ∙ by4 (λ v w x y. v or w or (x or y)) (λ v w x y. v or x or (w or y)) tt (es and ht) (et and hs) b c

module _ (s t : ℕ) (d : s ≡ t → ⊥) where
  apart : (x : ℕ) → (eqb s x and eqb t x) ≡ false
  apart x = F→false (eqb s x and eqb t x) (λ h. d (eqb→eq s x (and_l _ _ h) ∙ sym (eqb→eq t x (and_r _ _ h))))

  together-from : (past σ : List ℕ) → (σ has s and σ has t)
      ≡ (at_some_from s (λ q r. r has t) past σ or at_some_from t (λ q r. r has s) past σ)
  unfolding at_some_from ◌has◌ ◌and◌ ◌or◌
  together-from past [] = refl
  together-from past (x ∷ σ) = both_ways (eqb s x) (eqb t x) (σ has s) (σ has t) _ _ (apart x) (together-from (x ∷ past) σ)

  pub together-before : (L : Traces) → together L s t ≡ (before L s t or before L t s)
  unfolding together before
  together-before L =
      some-ext L _ (λ σ. at_some t (λ q r. q has s) σ or at_some s (λ q r. q has t) σ)
      (λ σ. together-from [] σ ∙ sym (ap₂ ◌or◌ (later-all s t σ) (later-all t s σ)))
      ∙ some_or L (at_some t (λ q r. q has s)) (at_some s (λ q r. q has t))

-- ---- what stands at a place of the log is an event, and so is what stands later

module _ (u : ℕ) (p : List ℕ → List ℕ → Bool) where
  pub place-event : (L : Traces) → T (some_trace L (at_some u p)) → T (event L u)
  place-event L h = let k = some-place u p L h in is-event L u k.2 (has_rest u k.0 (u ∷ k.1) (has_first u k.1))

  pub rest-event : (t : ℕ) → ((past rest : List ℕ) → T (p past rest) → T (rest has t)) → (L : Traces) → T (some_trace L (at_some u p)) → T (event L t)
  unfolding ◌has◌
  rest-event t f L h = let k = some-place u p L h in is-event L t k.2 (has_rest t k.0 (u ∷ k.1) (or_r _ _ (f _ _ k.3)))

module _ (L : Traces) (s u t : ℕ) (h : T (between L s u t)) where
  pub middle-event : T (event L u)
  unfolding between
  middle-event = place-event u _ L h

  pub later-event : T (event L t)
  unfolding between
  later-event = rest-event u _ t (λ past rest k. and_r _ _ k) L h

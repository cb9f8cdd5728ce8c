-- What the pass over a trace joins at the last place of each activity is what stands between two activities. Assumes nothing.
use mathlib.Core.Path.{◌≡◌, refl, sym, ◌∙◌}
use mathlib.Core.Bool.{Bool, true, false}
use mathlib.Core.List.{List, [], ◌∷◌, reverse_aux}
use Prim.Native.Nat.{ℕ}
use lib.Dec.{T, eqb}
use Rattle.sets.specs.Tests.{◌and◌, ◌or◌, non}
use Rattle.sets.proofs.Tests.{and_l, or-e, or_r, either, or-false}
use Rattle.sets.proofs.Tautologies.{by5}
use Rattle.rules.specs.Traces.{◌has◌, at_some_from, at_some}
use Rattle.months.specs.Pairs.{Pairs, since_in}

-- at the places that were passed, what was joined there: only where the activity does not come again
unfoldable pub joined_in : List ℕ → List ℕ → Pairs
joined_in [] rest u s v = false
joined_in (y ∷ past) rest u s v = joined_in past (y ∷ rest) u s v or eqb s y and non (rest has s) and since_in past u v

-- where v stands since a u, there is a u
pub since-seen : (past : List ℕ) (u v : ℕ) → T (since_in past u v) → T (past has u)
unfolding since_in ◌has◌
since-seen [] u v t = absurd t
since-seen (y ∷ past) u v t = either (or-e _ _ t) (λ k. or_r _ _ (since-seen past u v k)) (λ k. or_r _ _ (and_l _ _ k))

module _ (u s v : ℕ) where
  abbrev here : List ℕ → List ℕ → Bool
  here past rest = past has u and rest has s

  -- what was joined, what will be, since an s is still to come, and what is still to come
  abbrev all : List ℕ → List ℕ → Bool
  all past rest = joined_in past rest u s v or (rest has s and since_in past u v or at_some_from v here past rest)

  -- m was joined, x is still to come; e: s is here, a: v is here, h: a u was before, r: an s comes later, k: v stands since a u
  turn : (e a h r k : Bool) → (m x : Bool) → (m or ((e or r) and k or (a and (h and r) or x)))
      ≡ (m or e and non r and k or (r and (k or h and a) or x))
  unfolding ◌and◌ ◌or◌ non
  turn e a h r k true x = refl
  turn e a h r k false true =
      by5 (λ e a h r k. (e or r) and k or (a and (h and r) or true)) (λ e a h r k. e and non r and k or (r and (k or h and a) or true)) tt e a h r k
  turn e a h r k false false =
      by5 (λ e a h r k. (e or r) and k or (a and (h and r) or false)) (λ e a h r k. e and non r and k or (r and (k or h and a) or false)) tt e a h r k

  all_same : (past rest : List ℕ) → all past rest ≡ joined_in (reverse_aux rest past) [] u s v
  unfolding joined_in since_in at_some_from ◌has◌ ◌and◌ ◌or◌
  all_same past [] = or-false (joined_in past [] u s v)
  all_same past (y ∷ rest) =
      turn (eqb s y) (eqb v y) (past has u) (rest has s) (since_in past u v) (joined_in past (y ∷ rest) u s v) (at_some_from v here (y ∷ past) rest)
      ∙ all_same (y ∷ past) rest

  pub joined_is : (σ : List ℕ) → joined_in (reverse_aux σ []) [] u s v ≡ at_some v (λ past rest. past has u and rest has s) σ
  unfolding joined_in since_in ◌and◌ ◌or◌
  joined_is σ = sym (all_same [] σ) ∙ ends (σ has s) (at_some_from v here [] σ)
    where
      ends : (a b : Bool) → (false or (a and false or b)) ≡ b
      ends true b = refl
      ends false b = refl

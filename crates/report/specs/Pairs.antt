-- The pairs of a relation, rising by source, then target, and how many there are (01, "The listing").
use Rattle.std.specs.Prelude.{Bool, List, [], ◌∷◌, ◌++◌, map, ℕ, zero, suc, length}
use Rattle.sets.specs.Tests.{when◌then◌else◌}
use Rattle.sets.specs.Members.{width}
use Rattle.sets.specs.Rows.{Relation}

pub record Pair : Type 0 where
  pub source : ℕ
  pub target : ℕ

-- of the n numbers from a on, those that pass
unfoldable pub passing : (ℕ → Bool) → ℕ → ℕ → List ℕ
passing p zero a = []
passing p (suc n) a = when p a then a ∷ passing p n (suc a) else passing p n (suc a)

-- a source with each of these targets
abbrev pub with_each : ℕ → List ℕ → List Pair
with_each s ts = map (λ t. record { source = s; target = t }) ts

-- the pairs of the n sources from s on
unfoldable pub pairs_from : Relation → ℕ → ℕ → List Pair
pairs_from r zero s = []
pairs_from r (suc n) s = with_each s (passing (r s) width 0) ++ pairs_from r n (suc s)

abbrev pub pairs_of : Relation → List Pair
pairs_of r = pairs_from r width 0

-- the number of pairs in a relation
abbrev pub pair_count : Relation → ℕ
pair_count r = length (pairs_of r)

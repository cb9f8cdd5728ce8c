-- Lists of pairs (02, 1/12: 16-bit numbers, source × 256 + target; 10/12: at most 16,384 pairs a relation).
use Rattle.std.specs.Prelude.{Bool, List, ℕ, ◌+◌, ◌*◌, ◌/◌, ◌%◌, eqb, length, get_or}
use Rattle.sets.specs.Tests.{◌and◌, non}
use Rattle.sets.specs.Members.{mem, some_below, every_below}
use Rattle.sets.specs.Rows.{Relation}
use Rattle.sets.specs.declared.set.Set.{Set}
use Rattle.engine.specs.declared.marking.State.{State}

-- how many pairs a list may have
abbrev pub most_pairs : ℕ
most_pairs = 16384

abbrev pub pair_of : ℕ → ℕ → ℕ
pair_of s t = s * 256 + t

abbrev pub source_of : ℕ → ℕ
source_of p = p / 256

abbrev pub target_of : ℕ → ℕ
target_of p = p % 256

-- some number of the list passes
unfoldable pub some_in : List ℕ → (ℕ → Bool) → Bool
some_in pairs p = some_below (length pairs) (λ i. p (get_or pairs i 0))

-- every number of the list passes
unfoldable pub every_in : List ℕ → (ℕ → Bool) → Bool
every_in pairs p = every_below (length pairs) (λ i. p (get_or pairs i 0))

-- the number stands in the list, wherever and however often
unfoldable pub is_among : List ℕ → ℕ → Bool
is_among pairs n = some_in pairs (λ p. eqb p n)

-- the relation that a list holds: source and target are in it where their pair is a member
abbrev pub in_pairs : List ℕ → Relation
in_pairs pairs s t = is_among pairs (pair_of s t)

-- source and target are events
unfoldable pub pair_within : Set → ℕ → Bool
pair_within events p = mem events (source_of p) and mem events (target_of p)

-- so are those of every pair of a list
abbrev pub pairs_within : Set → List ℕ → Bool
pairs_within events pairs = every_in pairs (pair_within events)

-- a condition that keeps e waiting: it leads to e, and its source is included and not executed
unfoldable pub blocks : State → ℕ → ℕ → Bool
blocks m e p = eqb (target_of p) e and mem m.included (source_of p) and non (mem m.executed (source_of p))

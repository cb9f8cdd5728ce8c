-- When lists of pairs hold the same as a graph's rows, or as each other: what the promise of 1/12 speaks of.
use Rattle.std.specs.Prelude.{◌≡◌, Bool, List, ℕ, T, ltb}
use Rattle.sets.specs.Tests.{◌and◌}
use Rattle.sets.specs.Members.{width}
use Rattle.sets.specs.Rows.{Relation}
use Rattle.plain.specs.Pairs.{source_of, target_of, is_among}
use Rattle.plain.specs.Graphs.{lists_fit}
use Rattle.plain.specs.Filling.{relation_at}

-- p is a pair of the relation, between two activities that a set can hold
unfoldable pub pair_in : Relation → ℕ → Bool
pair_in r p = ltb (source_of p) width and ltb (target_of p) width and r (source_of p) (target_of p)

-- the list holds the pairs of the relation and no other number, in any order and however often each
abbrev pub Holds : List ℕ → Relation → Type 0
Holds pairs r = (p : ℕ) → is_among pairs p ≡ pair_in r p

-- the lists hold the same numbers
abbrev pub SameMembers : List ℕ → List ℕ → Type 0
SameMembers x y = (p : ℕ) → is_among x p ≡ is_among y p

-- four lists that are not too long hold the relations of a graph's tables
pub record InLists (tables c r i x : List ℕ) : Type 0 where
  pub fit : T (lists_fit c r i x)
  pub conditions : Holds c (relation_at tables 0)
  pub responses : Holds r (relation_at tables 1)
  pub includes : Holds i (relation_at tables 2)
  pub excludes : Holds x (relation_at tables 3)

-- four lists and four others, none too long, hold the same
pub record SameLists (c r i x c' r' i' x' : List ℕ) : Type 0 where
  pub fit : T (lists_fit c r i x)
  pub fit' : T (lists_fit c' r' i' x')
  pub conditions : SameMembers c c'
  pub responses : SameMembers r r'
  pub includes : SameMembers i i'
  pub excludes : SameMembers x x'

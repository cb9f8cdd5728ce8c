-- A relation that is kept in rows, put down as a list of pairs.
use Rattle.std.specs.Prelude.{Bool, List, [], ◌∷◌, ◌++◌, ℕ, zero, suc, ◌*◌, ◌/◌, ◌%◌, eqb, ltb, length, drop}
use Rattle.sets.specs.Tests.{when◌then◌else◌}
use Rattle.sets.specs.Members.{width}
use Rattle.sets.specs.Rows.{Relation, in_row}
use Rattle.sets.specs.Tables.{table_at}
use Rattle.sets.specs.declared.answer.Answer.TheVariants.{Done, BufferTooSmall}
use Rattle.plain.specs.declared.fill.Filled.{Filled}
use Rattle.plain.specs.Pairs.{pair_of}

-- relation k of a graph's tables: for conditions the row is the target's and has its sources, else the row is the source's (01, "Graph")
unfoldable pub relation_at : List ℕ → ℕ → Relation
relation_at tables k s t = when eqb k 0 then in_row (table_at tables k) t s else in_row (table_at tables k) s t

-- all pairs of activities that a set can hold, counted through by source, then target
abbrev pub questions : ℕ
questions = width * width

abbrev pub numbered : ℕ → ℕ
numbered k = pair_of (k / width) (k % width)

-- the relation has pair number k
unfoldable pub is_pair : Relation → ℕ → Bool
is_pair r k = r (k / width) (k % width)

-- of the first n pairs those that the relation has
unfoldable pub pairs_below : ℕ → Relation → List ℕ
pairs_below zero r = []
pairs_below (suc k) r = pairs_below k r ++ (when is_pair r k then numbered k ∷ [] else [])

-- all pairs of the relation, rising by source, then target
abbrev pub pairs_of : Relation → List ℕ
pairs_of r = pairs_below questions r

-- the first numbers of the memory are those of the list, the rest stays
abbrev pub put_down : List ℕ → List ℕ → List ℕ
put_down pairs memory = pairs ++ drop (length pairs) memory

-- 7 where the memory is too small, else how many pairs there are
unfoldable pub filled_of : Relation → List ℕ → Filled
filled_of r memory =
    when ltb (length memory) (length (pairs_of r)) then record { answer = BufferTooSmall; pairs = 0 }
    else record { answer = Done; pairs = length (pairs_of r) }

-- the lent memory then
unfoldable pub memory_after : Relation → List ℕ → List ℕ
memory_after r memory = when ltb (length memory) (length (pairs_of r)) then memory else put_down (pairs_of r) memory

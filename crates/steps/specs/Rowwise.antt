-- The steps as they are read from sets and rows: what the functions of src/relations.rt and src/reduce.rt put into the row of an event.
-- `in_row rows a x` says that x stands in row a. That the relations so read are those of the rules is a theorem of the miner, so a reader of
-- `mine` need not believe this file.
use Rattle.std.specs.Prelude.{Bool, List, ℕ, eqb, ltb}
use Rattle.sets.specs.Tests.{◌and◌, ◌or◌, non}
use Rattle.sets.specs.Members.{width, word, mem, those, some_below, least_below, within}
use Rattle.sets.specs.Rows.{Relation, row_at, in_row}
use Rattle.sets.specs.declared.set.Set.{Set}

-- x is another event, and does not stand in row a (steps 2 and 3, of rows that hold what breaks the rule)
unfoldable pub unbroken : Set → List ℕ → Relation
unbroken events rows a x = mem events x and non (eqb x a) and non (in_row rows a x)

-- x is an event, and does not stand in row a (step 6: a excludes what never directly follows it)
unfoldable pub absent : Set → List ℕ → Relation
absent events rows a x = mem events x and non (in_row rows a x)

-- a excludes itself: it never stands before itself, or it only ever stands directly after another (steps 1 and 3)
unfoldable pub excludes_itself : List ℕ → List ℕ → ℕ → Bool
excludes_itself before chains a = non (in_row before a a) or some_below width (λ u. in_row chains a u)

-- a is the smallest that passes
unfoldable pub smallest : (ℕ → Bool) → ℕ → Bool
smallest p a = p a and eqb a (least_below width p)

-- row t: the sources of step 4's pairs with the target t
unfoldable pub apart : Set → List ℕ → List ℕ → Relation
apart events before later t s = mem events s and non (eqb s t) and non (in_row before t s or in_row later t s)

-- row s: the sources of step 5's pairs with the target s, which may exclude itself
unfoldable pub closing : Set → Bool → List ℕ → List ℕ → Relation
closing events itself before later s t = mem events t and in_row later s t and non (in_row before s t) and non itself

-- row t: what excludes t after steps 1 to 5
unfoldable pub excluders : Set → List ℕ → List ℕ → List ℕ → Relation
excluders events before later chains t s =
    excludes_itself before chains t and eqb s t
    or smallest (apart events before later t) s
    or smallest (closing events (excludes_itself before chains t) before later t) s

-- a pair of one or of the other
unfoldable pub in_either : List ℕ → List ℕ → Relation
in_either rows others a x = in_row rows a x or in_row others a x

-- steps 8 and 10: a pair goes where some u leads from a to x
unfoldable pub reduced_of : List ℕ → Relation
reduced_of rows a x = in_row rows a x and non (some_below width (λ u. in_row rows a u and in_row rows u x))

-- in the narrow form row a lies below 64
unfoldable pub fits : Bool → List ℕ → ℕ → Bool
fits wide rows a = wide or within (row_at rows a) (those (λ b. ltb b word))

-- step 9: to the target a from x, where x is before the first a of some trace and is missed at no a
unfoldable pub waited : Set → List ℕ → List ℕ → List ℕ → Relation
waited events conditions before_first missed a x =
    mem events x and (in_row conditions a x or non (eqb x a) and in_row before_first a x and non (in_row missed a x))

-- A relation kept as one set for each activity: the low words of all rows, then the high ones.
use Rattle.std.specs.Prelude.{Bool, List, [], ◌∷◌, ◌++◌, ℕ, zero, suc, ◌+◌, ltb, get_or, set, replicate}
use Rattle.sets.specs.Tests.{◌and◌, when◌then◌else◌}
use Rattle.sets.specs.Members.{width, mem, those, no_set}
use Rattle.sets.specs.declared.set.Set.{Set}

-- a relation, as a test of two activities
abbrev pub Relation : Type 0
Relation = ℕ → ℕ → Bool

-- how many words the rows of one relation are
abbrev pub row_words : ℕ
row_words = width + width

-- rows without a member
abbrev pub no_rows : List ℕ
no_rows = replicate row_words 0

-- row a; empty past the last
unfoldable pub row_at : List ℕ → ℕ → Set
row_at rows a = when ltb a width then record { low = get_or rows a 0; high = get_or rows (width + a) 0 } else no_set

-- the rows with s at a; the same where there is no row a
unfoldable pub with_row : List ℕ → ℕ → Set → List ℕ
with_row rows a s = when ltb a width then set (set rows a s.low) (width + a) s.high else rows

-- b stands in row a
unfoldable pub in_row : List ℕ → Relation
in_row rows a b = mem (row_at rows a) b

-- f i, f (i + 1), .. : n numbers
unfoldable pub list_from : ℕ → ℕ → (ℕ → ℕ) → List ℕ
list_from zero i f = []
list_from (suc n) i f = f i ∷ list_from n (suc i) f

-- the rows of a relation: row a is the set of the b that it has with a
unfoldable pub rows_of : Relation → List ℕ
rows_of r = list_from width 0 (λ a. (those (r a)).low) ++ list_from width 0 (λ a. (those (r a)).high)

-- the rows of a relation at the members of a set; the others are empty
unfoldable pub rows_for : Set → Relation → List ℕ
rows_for s r = rows_of (λ a b. mem s a and r a b)

-- from rows by target to pairs by source, and back
unfoldable pub turned : List ℕ → Relation
turned rows a b = in_row rows b a

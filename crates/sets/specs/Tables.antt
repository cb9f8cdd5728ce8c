-- Several relations' rows, one table after another.
use Rattle.std.specs.Prelude.{List, [], ◌++◌, ℕ, zero, suc, ◌+◌, ◌*◌, ltb, take, drop, set, replicate}
use Rattle.sets.specs.Tests.{◌or◌, when◌then◌else◌}
use Rattle.sets.specs.Members.{width, mem, those}
use Rattle.sets.specs.Rows.{Relation, row_words, row_at, rows_of}
use Rattle.sets.specs.declared.set.Set.{Set}

-- n tables without a member
abbrev pub no_tables : ℕ → List ℕ
no_tables n = replicate (n * row_words) 0

-- the rows of table k
unfoldable pub table_at : List ℕ → ℕ → List ℕ
table_at tables k = take row_words (drop (k * row_words) tables)

-- the tables with s in row a of table k; the same where there is no such row
unfoldable pub with_row_in : List ℕ → ℕ → ℕ → Set → List ℕ
with_row_in tables k a s = when ltb a width then set (set tables (k * row_words + a) s.low) (k * row_words + a + width) s.high else tables

-- the tables where row a of table k has gained the members of s
abbrev pub gained_in : List ℕ → ℕ → ℕ → Set → List ℕ
gained_in tables k a s = with_row_in tables k a (those (λ b. mem (row_at (table_at tables k) a) b or mem s b))

-- the tables with the first n of these rows in table k
unfoldable pub with_rows_in : List ℕ → ℕ → List ℕ → ℕ → List ℕ
with_rows_in tables k rows zero = tables
with_rows_in tables k rows (suc n) = with_row_in (with_rows_in tables k rows n) k n (row_at rows n)

-- the tables with all of them in table k
abbrev pub with_table : List ℕ → ℕ → List ℕ → List ℕ
with_table tables k rows = with_rows_in tables k rows width

-- the rows of the relations 0 to n - 1, one after another
unfoldable pub tables_of : ℕ → (ℕ → Relation) → List ℕ
tables_of zero r = []
tables_of (suc n) r = rows_of (r 0) ++ tables_of n (λ k. r (suc k))

-- What stands where in a tally (02, 12/12; docs/FORMATS.md): 36,864 bytes, which are 4,608 sets of 8 bytes, one after another. Byte 0, of set 0,
-- is A; set 1 are the events; then the seven tables of the mining tally, row by row; from set 512 on a set for each two activities; the rest is
-- spare. A tally is of 64 activities at most, however many a log may have: so its sets are in the narrow form.
use Rattle.std.specs.Prelude.{false, List, [], ◌++◌, ℕ, zero, suc, ◌+◌, ◌*◌, get_or}
use Rattle.sets.specs.Members.{word}
use Rattle.sets.specs.declared.set.Set.{Set}
use Rattle.octets.specs.Sets.{set_length, set_bytes, set_at}

-- the greatest A of a tally, and how many rows a table and how many pairs an activity has in it
abbrev pub tally_width : ℕ
tally_width = word

-- how many sets a tally has
abbrev pub set_count : ℕ
set_count = 4608

-- and how many bytes: 8 for each
abbrev pub tally_length : ℕ
tally_length = 36864

-- the first set of the tables, the one after their last, and the first of the pairs
abbrev pub first_row : ℕ
first_row = 2

abbrev pub rows_end : ℕ
rows_end = 450

abbrev pub first_pair : ℕ
first_pair = 512

-- row a of table k
abbrev pub row_set : ℕ → ℕ → ℕ
row_set k a = first_row + tally_width * k + a

-- what stands between a u and a later s
abbrev pub pair_set : ℕ → ℕ → ℕ
pair_set u s = first_pair + tally_width * u + s

-- n sets' bytes, from set w on
unfoldable pub sets_from : ℕ → ℕ → (ℕ → Set) → List ℕ
sets_from zero w f = []
sets_from (suc n) w f = set_bytes false (f w) ++ sets_from n (suc w) f

-- A
abbrev pub activities_in : List ℕ → ℕ
activities_in tally = get_or tally 0 0

-- set w
abbrev pub set_in : List ℕ → ℕ → Set
set_in tally w = set_at false tally (set_length false * w)

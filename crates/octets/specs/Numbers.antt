-- Numbers as bytes, little-endian (01, "Sizes").
use Rattle.std.specs.Prelude.{List, [], ◌∷◌, ℕ, zero, suc, ◌+◌, ◌*◌, ◌/◌, ◌%◌, ltb, length, take, drop}
use Rattle.std.proofs.lemmas.List.Edits.{sets}
use Rattle.sets.specs.Tests.{when◌then◌else◌}

-- x in n bytes, the lowest first
unfoldable pub little_endian : ℕ → ℕ → List ℕ
little_endian zero x = []
little_endian (suc n) x = x % 256 ∷ little_endian n (x / 256)

-- the number that bytes hold, the lowest first
unfoldable pub value_of : List ℕ → ℕ
value_of [] = 0
value_of (b ∷ bytes) = b + 256 * value_of bytes

-- the number in the n bytes from a place on
unfoldable pub number_at : ℕ → List ℕ → ℕ → ℕ
number_at n bytes at = value_of (take n (drop at bytes))

-- how many bytes a number of a file has: T, offsets, lengths, numbers of rows
abbrev pub number_length : ℕ
number_length = 2

-- the bytes with a number stored from a place on; as they were where there are too few
unfoldable pub number_put : List ℕ → ℕ → ℕ → List ℕ
number_put bytes at x = when ltb (length bytes) (at + number_length) then bytes else sets bytes at (little_endian number_length x)

-- Sets as bytes (01, "Sizes": a set is 8 bytes, bit a for activity a; numbers are little-endian. 02, 10/12: 16 bytes in files of edition 2).
use Rattle.std.specs.Prelude.{Bool, true, false, List, [], ◌++◌, ℕ, ◌+◌, ◌/◌, ltb, length}
use Rattle.std.proofs.lemmas.List.Edits.{sets}
use Rattle.sets.specs.Tests.{when◌then◌else◌}
use Rattle.sets.specs.Members.{width, word, no_set}
use Rattle.octets.specs.Numbers.{little_endian, number_at}
use Rattle.sets.specs.declared.set.Set.{Set}

-- how many bytes a machine word has
abbrev pub word_length : ℕ
word_length = word / 8

-- how many bytes a set has: a bit for each activity that its form can hold, 128 in the wide form, 64 in the other
abbrev pub set_length : Bool → ℕ
set_length true = width / 8
set_length false = word_length

-- the bytes of a set; a member that the form cannot hold leaves no trace in them
unfoldable pub set_bytes : Bool → Set → List ℕ
set_bytes wide s = little_endian word_length s.low ++ (when wide then little_endian word_length s.high else [])

-- the set whose bytes stand there
unfoldable pub set_there : Bool → List ℕ → ℕ → Set
set_there wide bytes at = record { low = number_at word_length bytes at; high = when wide then number_at word_length bytes (at + word_length) else 0 }

-- the set in the bytes from a place on; the empty set where there are too few
unfoldable pub set_at : Bool → List ℕ → ℕ → Set
set_at wide bytes at = when ltb (length bytes) (at + set_length wide) then no_set else set_there wide bytes at

-- the bytes with a set stored from a place on; as they were where there are too few
unfoldable pub set_put : Bool → List ℕ → ℕ → Set → List ℕ
set_put wide bytes at s = when ltb (length bytes) (at + set_length wide) then bytes else sets bytes at (set_bytes wide s)

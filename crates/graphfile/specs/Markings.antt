-- A marking by itself, in four sets of bytes: executed, pending, included, enabled (02, 6/12); in the form that the file of its graph has (02, 10/12).
use Rattle.std.specs.Prelude.{Bool, List, ◌++◌, ℕ, ◌+◌, ◌*◌, ltb, length}
use Rattle.std.proofs.lemmas.List.Edits.{sets}
use Rattle.sets.specs.Tests.{when◌then◌else◌}
use Rattle.engine.specs.Markings.{empty_marking}
use Rattle.engine.specs.declared.marking.Marking.{Marking}
use Rattle.graphfile.specs.Layout.{marking_at}
use Rattle.octets.specs.Sets.{set_length, set_bytes}
use Rattle.graphfile.specs.Writing.{state_bytes}

-- how many bytes a marking has: 32, or 64
abbrev pub marking_length : Bool → ℕ
marking_length wide = 4 * set_length wide

-- what a file holds of it, and the set of enabled activities
unfoldable pub marking_bytes : Bool → Marking → List ℕ
marking_bytes wide m = state_bytes wide m.state ++ set_bytes wide m.enabled

-- the marking in the bytes from a place on; the empty one where there are too few
unfoldable pub marking_held : Bool → List ℕ → ℕ → Marking
marking_held wide bytes at = when ltb (length bytes) (at + marking_length wide) then empty_marking else marking_at wide bytes at

-- the bytes with a marking stored from a place on; as they were where there are too few
unfoldable pub marking_put : Bool → Marking → List ℕ → ℕ → List ℕ
marking_put wide m bytes at = when ltb (length bytes) (at + marking_length wide) then bytes else sets bytes at (marking_bytes wide m)

-- both from the first byte on
abbrev pub marking_from : Bool → List ℕ → Marking
marking_from wide bytes = marking_held wide bytes 0

abbrev pub marking_into : Bool → Marking → List ℕ → List ℕ
marking_into wide m bytes = marking_put wide m bytes 0

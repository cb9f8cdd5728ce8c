-- The head of a graph by itself, in bytes: A, events, executed, pending, included, enabled; in the form that goes with its A (02, 10/12).
use Rattle.std.specs.Prelude.{Bool, List, ℕ, ◌+◌, ltb, length, get_or}
use Rattle.sets.specs.Tests.{when◌then◌else◌}
use Rattle.sets.specs.Members.{no_set}
use Rattle.engine.specs.Markings.{empty_marking}
use Rattle.engine.specs.Relations.{head_of}
use Rattle.engine.specs.declared.graph.Head.{Head}
use Rattle.octets.specs.Sets.{set_length}
use Rattle.graphfile.specs.Layout.{wide_for, head_at}
use Rattle.graphfile.specs.Markings.{marking_length}

-- A, the events and a marking: 41 bytes, or 81
abbrev pub lone_head_length : Bool → ℕ
lone_head_length wide = 1 + set_length wide + marking_length wide

-- the form is told by A, the first byte
abbrev pub wide_head : List ℕ → Bool
wide_head bytes = wide_for (get_or bytes 0 0)

-- the head in the first bytes; the empty one where there are too few
unfoldable pub head_from : List ℕ → Head
head_from bytes = when ltb (length bytes) (lone_head_length (wide_head bytes)) then head_of 0 no_set empty_marking else head_at (wide_head bytes) bytes 0

use Prim.Native.Nat.{◌+◌}
use mathlib.Core.Path.{◌≡◌}
use lib.ListN.{length}
use lib.Seq.{sets}
use Rattle.graphfile.specs.Layout.{head_length, rows_length}
use Rattle.graphfile.specs.Writing.{rows_before, relations_bytes}
use Rattle.graphfile.proofs.RowStores.{form_of}
use Rattle.graphfile.proofs.writer.put_relations.Given as goal

abbrev pub invariant-loop-r : goal.invariant-loop-r
invariant-loop-r g l = (length l.out ≡ length l.initial.out)
    × (l.next ≡ head_length (form_of g.row.WIDE) + rows_length (form_of g.row.WIDE) (rows_before (form_of g.row.WIDE) l.relations l.r))
    × (l.out ≡ sets l.initial.out (head_length (form_of g.row.WIDE)) (relations_bytes (form_of g.row.WIDE) l.relations l.r))

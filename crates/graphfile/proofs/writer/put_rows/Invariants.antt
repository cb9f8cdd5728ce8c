use Prim.Native.Nat.{◌+◌, ◌-◌}
use mathlib.Core.Path.{◌≡◌}
use lib.ListN.{length}
use lib.Seq.{sets}
use Rattle.sets.specs.Tables.{table_at}
use Rattle.graphfile.specs.Layout.{rows_length}
use Rattle.graphfile.specs.Refusals.{most_rows}
use Rattle.graphfile.specs.Writing.{rows_from, count_from, row_count, relation_bytes}
use Rattle.graphfile.proofs.RowStores.{form_of}
use Rattle.graphfile.proofs.writer.put_rows.Given as goal

abbrev pub invariant-loop-a : goal.invariant-loop-a
invariant-loop-a g l = (length l.out ≡ length l.initial.out)
    × (l.next + rows_length (form_of g.row.WIDE) (count_from (table_at l.relations l.r) (most_rows (form_of g.row.WIDE) - l.a) l.a)
    ≡ l.at + rows_length (form_of g.row.WIDE) (row_count (form_of g.row.WIDE) (table_at l.relations l.r)))
    × (sets l.out l.next (rows_from (form_of g.row.WIDE) (table_at l.relations l.r) (most_rows (form_of g.row.WIDE) - l.a) l.a)
    ≡ sets l.initial.out l.at (relation_bytes (form_of g.row.WIDE) (table_at l.relations l.r)))

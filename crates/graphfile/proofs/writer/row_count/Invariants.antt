use Prim.Native.Nat.{◌+◌, ◌-◌, ◌≤◌}
use mathlib.Core.Path.{◌≡◌}
use Rattle.sets.specs.Tables.{table_at}
use Rattle.graphfile.specs.Refusals.{most_rows}
use Rattle.graphfile.specs.Writing.{count_from, row_count}
use Rattle.graphfile.proofs.RowStores.{form_of}
use Rattle.graphfile.proofs.writer.row_count.Given as goal

abbrev pub invariant-loop-a : goal.invariant-loop-a
invariant-loop-a g l = (l.n + count_from (table_at l.relations l.r) (most_rows (form_of g.row.WIDE) - l.a) l.a ≡ row_count (form_of g.row.WIDE) (table_at l.relations l.r)) × (l.n ≤ l.a)

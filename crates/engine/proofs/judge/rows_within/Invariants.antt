use Prim.Native.Nat.{◌≤◌}
use Rattle.sets.specs.Members.{width}
use Rattle.sets.specs.Rows.{row_at}
use Rattle.sets.specs.Tables.{table_at}
use Rattle.sets.proofs.Ways.{passed}
use Rattle.engine.specs.Judged.{row_within}
use Rattle.engine.proofs.judge.rows_within.Given as goal

abbrev pub invariant-loop-i : goal.invariant-loop-i
invariant-loop-i l = (l.i ≤ width) × passed (λ a. row_within l.events a (row_at (table_at l.relations l.kind) a)) l.i

use mathlib.Core.Path.{◌≡◌}
use Prim.Native.Nat.{◌+◌, ◌-◌, ◌*◌, ◌≤◌}
use lib.ListN.{length}
use Rattle.sets.specs.Members.{width}
use Rattle.sets.specs.Rows.{in_row}
use Rattle.sets.specs.Tables.{table_at}
use Rattle.report.specs.Pairs.{pairs_from, pair_count}
use Rattle.report.proofs.heading.pair_count.Given as goal

abbrev pub invariant-loop-a : goal.invariant-loop-a
invariant-loop-a l = (l.n ≤ width * width)
    × (l.n + length (pairs_from (in_row (table_at l.tables l.table)) (width - l.a) l.a) ≡ pair_count (in_row (table_at l.tables l.table)))

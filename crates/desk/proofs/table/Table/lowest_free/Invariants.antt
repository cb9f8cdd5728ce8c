use Rattle.sets.proofs.Ways.{passed}
use Rattle.desk.specs.Places.{is_open}
use Rattle.desk.proofs.table.Table.lowest_free.Given as goal

abbrev pub invariant-loop-place : goal.invariant-loop-place
invariant-loop-place l = passed (is_open l.self.wide l.self.bytes.now) l.place

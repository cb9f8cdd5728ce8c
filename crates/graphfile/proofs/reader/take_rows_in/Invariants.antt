use Rattle.graphfile.proofs.Filling.{Taken}
use Rattle.graphfile.proofs.reader.take_rows_in.Given as goal

abbrev pub invariant-loop-j : goal.invariant-loop-j
invariant-loop-j g l = Taken l.rows.bytes.now l.r l.rows.count l.rows.first l.initial.held l.held l.j

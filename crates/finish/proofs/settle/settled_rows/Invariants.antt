use Rattle.sets.proofs.Loops.{Filled}
use Rattle.engine.specs.Relations.{in_tables}
use Rattle.finish.specs.Parts.{settles}
use Rattle.finish.proofs.settle.settled_rows.Given as goal

abbrev pub invariant-loop-a : goal.invariant-loop-a
invariant-loop-a l = Filled l.initial.a-iterator.rest (settles (in_tables l.relations)) l.out l.a-iterator.rest

use Rattle.sets.proofs.Passing.{Part, Shared}
use Rattle.sets.proofs.rows.share.Given as goal

abbrev pub invariant-loop-a : goal.invariant-loop-a
invariant-loop-a l = (Part l.initial.a-iterator.rest l.a-iterator.rest) × Shared l.initial.rows l.gain l.initial.a-iterator.rest l.rows l.a-iterator.rest

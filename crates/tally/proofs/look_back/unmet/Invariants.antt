use Rattle.tally.proofs.LookBack.{LookedTo}
use Rattle.tally.proofs.look_back.unmet.Given as goal

abbrev pub invariant-loop-x : goal.invariant-loop-x
invariant-loop-x l = LookedTo l.past l.e.0 l.initial.left l.left l.x-iterator.iter.rest.now

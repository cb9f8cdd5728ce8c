use Rattle.finish.proofs.Settling.{Narrowing}
use Rattle.finish.proofs.settle.settling.Given as goal

abbrev pub invariant-loop-x : goal.invariant-loop-x
invariant-loop-x l = Narrowing l.settlers l.initial.out l.initial.x-iterator.rest l.out l.x-iterator.rest

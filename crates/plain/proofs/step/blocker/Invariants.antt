use Prim.Native.Nat.{◌≤◌}
use lib.ListN.{length}
use Rattle.plain.proofs.Stepping.{Smallest}
use Rattle.plain.proofs.step.blocker.Given as goal

abbrev pub invariant-loop-pair : goal.invariant-loop-pair
invariant-loop-pair l = (l.pair-index ≤ length l.g.conditions.now) × Smallest l.g.conditions.now l.fn.s l.a.0 l.least.0 l.pair-index

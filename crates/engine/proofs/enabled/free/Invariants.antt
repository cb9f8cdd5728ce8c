use Prim.Native.Nat.{◌≤◌}
use Rattle.sets.specs.Tests.{non}
use Rattle.sets.proofs.Loops.{Gathered}
use Rattle.engine.specs.Relations.{in_tables}
use Rattle.engine.specs.Steps.{waits}
use Rattle.engine.proofs.enabled.free.Given as goal

abbrev pub invariant-loop-i : goal.invariant-loop-i
invariant-loop-i l = (l.i ≤ l.end) × Gathered (λ e. non (waits (in_tables l.relations) l.s e)) l.out l.i

use mathlib.Core.Path.{◌≡◌}
use Prim.Native.Nat.{◌≤◌}
use Rattle.sets.specs.Members.{width}
use Rattle.sets.specs.Rows.{rows_of}
use Rattle.sets.specs.Rows.{turned}
use Rattle.sets.proofs.Loops.{onto}
use Rattle.sets.proofs.rows.turned.Given as goal

abbrev pub invariant-loop-x : goal.invariant-loop-x
invariant-loop-x l = (l.x ≤ width) × (l.out ≡ rows_of (onto (turned l.rows) l.x))

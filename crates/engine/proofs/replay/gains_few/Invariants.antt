use mathlib.Core.Path.{◌≡◌}
use Prim.Native.Nat.{◌≤◌}
use Rattle.sets.specs.Members.{word}
use Rattle.engine.specs.Relations.{in_tables}
use Rattle.engine.proofs.Narrow.{gained_below}
use Rattle.engine.proofs.replay.gains_few.Given as goal

abbrev pub invariant-loop-i : goal.invariant-loop-i
invariant-loop-i l = (l.i ≤ word) × (l.all ≡ gained_below (in_tables l.relations) l.i)

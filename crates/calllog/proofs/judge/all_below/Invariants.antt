use mathlib.Core.Path.{◌≡◌}
use Prim.Native.Nat.{◌-◌}
use lib.ListN.{drop, length}
use Rattle.sets.specs.Tests.{◌and◌}
use Rattle.calllog.specs.Judged.{all_below}
use Rattle.calllog.proofs.judge.all_below.Given as goal

abbrev pub invariant-loop-i : goal.invariant-loop-i
invariant-loop-i l = (l.below and all_below l.a (drop l.i l.bytes)) ≡ all_below l.a (drop l.from l.bytes)

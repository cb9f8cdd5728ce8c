use Prim.Native.Nat.{◌≤◌}
use mathlib.Core.Path.{◌≡◌}
use lib.ListN.{length}
use Rattle.sets.specs.Tests.{◌or◌}
use Rattle.sets.specs.Members.{no_set}
use Rattle.sets.proofs.Tests.{or-false}
use Rattle.plain.proofs.Stepping.{or-more, so_far}
use Rattle.plain.proofs.Enabling.{keeps}
use Rattle.plain.proofs.enabled.waiting.Given as goal

abbrev pub invariant-loop-pair : goal.invariant-loop-pair
invariant-loop-pair l = (l.pair-index ≤ length l.conditions) × (l.out ≡ so_far ◌or◌ or-false or-more keeps no_set l.conditions l.s l.pair-index)

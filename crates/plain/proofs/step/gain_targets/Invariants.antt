use Prim.Native.Nat.{◌≤◌}
use mathlib.Core.Path.{◌≡◌}
use lib.ListN.{length}
use Rattle.sets.specs.Tests.{◌or◌}
use Rattle.sets.proofs.Tests.{or-false}
use Rattle.plain.proofs.Stepping.{or-more, leads, so_far}
use Rattle.plain.proofs.step.gain_targets.Given as goal

abbrev pub invariant-loop-pair : goal.invariant-loop-pair
invariant-loop-pair l = (l.pair-index ≤ length l.pairs) × (l.kept ≡ so_far ◌or◌ or-false or-more leads l.initial.kept l.pairs l.a.0 l.pair-index)

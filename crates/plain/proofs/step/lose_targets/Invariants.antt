use Prim.Native.Nat.{◌≤◌}
use mathlib.Core.Path.{◌≡◌}
use lib.ListN.{length}
use Rattle.plain.proofs.Stepping.{but, but-none, but-more, leads, so_far}
use Rattle.plain.proofs.step.lose_targets.Given as goal

abbrev pub invariant-loop-pair : goal.invariant-loop-pair
invariant-loop-pair l = (l.pair-index ≤ length l.pairs) × (l.kept ≡ so_far but but-none but-more leads l.initial.kept l.pairs l.a.0 l.pair-index)

use mathlib.Core.Path.{◌≡◌}
use Rattle.tally.proofs.LookBack.{left_from}
use Rattle.tally.proofs.look_back.Blocks.take_up.Given as goal

abbrev pub invariant-loop-j : goal.invariant-loop-j
invariant-loop-j l = l.self.rows ≡ left_from l.trace l.j

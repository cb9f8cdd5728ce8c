use Rattle.std.specs.Prelude.{not, ◌==◌}
use Rattle.tally.proofs.Loops.{Onward}
use Rattle.tally.proofs.passes.forward.Given as goal

abbrev pub invariant-loop-i : goal.invariant-loop-i
invariant-loop-i g l = Onward (not (g.row.WIDE == 0)) l.trace l.initial.tally l.tally l.blocks.rows l.seen l.last l.i

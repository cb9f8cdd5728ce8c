use Rattle.std.specs.Prelude.{not, ◌==◌}
use Rattle.tally.proofs.Loops.{HomewardTo}
use Rattle.tally.proofs.passes.backward.Given as goal

abbrev pub invariant-loop-e : goal.invariant-loop-e
invariant-loop-e g l = HomewardTo (not (g.row.WIDE == 0)) l.trace l.initial.tally l.tally l.after l.next l.e-iterator.iter.rest.now

use Rattle.months.proofs.Along.{Along}
use Rattle.months.proofs.pairs.note_along.Given as goal

abbrev pub invariant-loop-i : goal.invariant-loop-i
invariant-loop-i l = Along l.trace l.initial.tally l.tally l.cuts.firsts l.cuts.gaps l.cuts.seen l.i

use Rattle.sets.specs.Members.{mem}
use Rattle.months.specs.Layout.{pair_set, set_in}
use Rattle.months.proofs.FromTally.{GatheredFrom}
use Rattle.months.proofs.reading.let_in.Given as goal

abbrev pub invariant-loop-s : goal.invariant-loop-s
invariant-loop-s l = GatheredFrom (λ s x. mem (set_in l.tally (pair_set s l.t.0)) x) l.initial.s-iterator.rest l.out l.s-iterator.rest

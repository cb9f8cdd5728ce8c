use Rattle.months.proofs.Cuts.{LeftBack}
use Rattle.months.proofs.pairs.Cuts.join_back.Given as goal

abbrev pub invariant-loop-j : goal.invariant-loop-j
invariant-loop-j l = LeftBack l.initial.tally l.s.0 l.self.firsts l.self.gaps l.self.seen.count l.tally l.since l.j

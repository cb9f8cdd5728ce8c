use Rattle.sets.proofs.Loops.{Filled}
use Rattle.months.specs.Readings.{between_in, excluded}
use Rattle.months.proofs.reading.Exclusions.excluded.Given as goal

abbrev pub invariant-loop-a : goal.invariant-loop-a
invariant-loop-a l = Filled l.initial.a-iterator.rest (excluded l.self.alternating.now l.self.includes.now l.self.excludes.now (between_in l.self.tally.now)) l.out l.a-iterator.rest

use Rattle.sets.proofs.Loops.{Filled}
use Rattle.months.specs.Readings.{between_in, includers}
use Rattle.months.proofs.reading.Reading.includers.Given as goal

abbrev pub invariant-loop-a : goal.invariant-loop-a
invariant-loop-a l = Filled l.initial.a-iterator.rest (includers l.self.events l.chains l.never (between_in l.self.tally.now)) l.out l.a-iterator.rest

use Rattle.months.specs.Readings.{between_in, redundant_by}
use Rattle.months.proofs.FromTally.{GatheredFrom}
use Rattle.months.proofs.reading.Exclusions.redundant_row.Given as goal

abbrev pub invariant-loop-u : goal.invariant-loop-u
invariant-loop-u l = GatheredFrom (λ u x. redundant_by l.self.includes.now l.self.excludes.now (between_in l.self.tally.now) u l.s.0 x) l.initial.u-iterator.rest l.out l.u-iterator.rest

use Prim.Native.Nat.{◌-◌}
use Rattle.sets.specs.Members.{width, mem, least_below}
use Rattle.sets.proofs.Loops.{Filled}
use Rattle.steps.specs.Rowwise.{reduced_of}
use Rattle.steps.proofs.Reduction.{Judging, Lowest}
use Rattle.steps.proofs.reduce.reduced_in.Given as goal

abbrev pub invariant-source : goal.invariant-source
invariant-source g l = Filled l.initial.source-iterator.rest (reduced_of l.rows) l.out l.source-iterator.rest

abbrev pub invariant-middle : goal.invariant-middle
invariant-middle g l = (Judging l.rows l.source.0 l.kept l.targets l.middles.rest) × Lowest l.target.0 l.targets

abbrev pub invariant-target : goal.invariant-target
invariant-target g l = Judging l.rows l.source.0 l.kept l.targets l.middles.rest

abbrev pub decreases-target : goal.decreases-target
decreases-target g l = width - least_below width (mem l.targets)

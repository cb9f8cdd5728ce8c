use mathlib.Core.Path.{◌≡◌}
use Rattle.sets.specs.Members.{those}
use Rattle.sets.specs.Tables.{table_at}
use Rattle.sets.proofs.Passing.{Part, in_some, passed}
use Rattle.steps.proofs.relations.union_of.Given as goal

abbrev pub invariant-loop-u : goal.invariant-loop-u
invariant-loop-u l =
    (Part l.initial.u-iterator.rest l.u-iterator.rest)
    × (l.out ≡ those (in_some (table_at l.tables l.table) (passed l.initial.u-iterator.rest l.u-iterator.rest)))

use mathlib.Core.Path.{◌≡◌}
use Rattle.sets.specs.Members.{mem}
use Rattle.months.specs.Layout.{row_set, set_in}
use Rattle.months.proofs.FromTally.{rows_to}
use Rattle.months.proofs.reading.rows_in.Given as goal

abbrev pub invariant-loop-i : goal.invariant-loop-i
invariant-loop-i l = l.out ≡ rows_to (λ a x. mem (set_in l.tally (row_set l.k a)) x) l.i

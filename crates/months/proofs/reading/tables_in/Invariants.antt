use mathlib.Core.Path.{◌≡◌}
use Prim.Native.Nat.{◌*◌, ◌≤◌}
use lib.Dec.{ltb}
use lib.ListN.{length}
use Rattle.sets.specs.Tests.{◌and◌}
use Rattle.sets.specs.Members.{mem}
use Rattle.sets.specs.Rows.{row_words}
use Rattle.tally.specs.Tallies.{table_count}
use Rattle.months.specs.Layout.{tally_width, row_set, set_in}
use Rattle.months.proofs.FromTally.{tables_to}
use Rattle.months.proofs.reading.tables_in.Given as goal

abbrev pub invariant-loop-k : goal.invariant-loop-k
invariant-loop-k l = (l.k ≤ table_count) × (length l.out ≡ table_count * row_words) × (l.out ≡ tables_to (λ j a x. ltb a tally_width and mem (set_in l.tally (row_set j a)) x) l.k)

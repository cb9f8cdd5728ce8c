use mathlib.Core.Path.{◌≡◌}
use Prim.Native.Nat.{◌≤◌}
use lib.ListN.{length}
use Rattle.months.specs.Layout.{set_count, tally_length}
use Rattle.months.proofs.Initial.{initial_to}
use Rattle.months.proofs.filling.put_initial.Given as goal

abbrev pub invariant-loop-w : goal.invariant-loop-w
invariant-loop-w l = (l.w ≤ set_count) × (tally_length ≤ length l.initial.tally) × (length l.tally ≡ length l.initial.tally) × (l.tally ≡ initial_to l.events l.tables l.initial.tally l.w)

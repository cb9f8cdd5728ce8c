use mathlib.Core.Path.{◌≡◌}
use Prim.Native.Nat.{◌≤◌}
use lib.ListN.{length}
use Rattle.port.specs.Tallies.{known_length}
use Rattle.port.proofs.Tallied.{rows_to}
use Rattle.port.proofs.tallies.put_rows.Given as goal

abbrev pub invariant-loop-i : goal.invariant-loop-i
invariant-loop-i l = (known_length ≤ length l.initial.out) × (length l.out ≡ length l.initial.out) × (l.out ≡ rows_to l.relations l.initial.out l.i)

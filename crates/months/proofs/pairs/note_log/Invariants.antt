use mathlib.Core.Path.{◌≡◌}
use Prim.Native.Nat.{◌≤◌}
use lib.ListN.{length}
use Rattle.months.specs.Pairs.{Gained}
use Rattle.months.proofs.Gaining.{between_to}
use Rattle.months.proofs.pairs.note_log.Given as goal

abbrev pub invariant-loop-k : goal.invariant-loop-k
invariant-loop-k l = (l.k ≤ l.traces) × (length l.tally ≡ length l.initial.tally) × Gained l.initial.tally (between_to l.log l.k) l.tally

use mathlib.Core.Path.{◌≡◌}
use Rattle.months.proofs.Bytewise.{or_to}
use Rattle.months.proofs.joining.join_bytes.Given as goal

abbrev pub invariant-loop-i : goal.invariant-loop-i
invariant-loop-i l = l.bytes ≡ or_to l.initial.bytes l.other l.i

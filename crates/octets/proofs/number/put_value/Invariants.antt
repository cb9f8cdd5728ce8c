use lib.Seq.{sets}
use Rattle.octets.specs.Numbers.{little_endian}
use Prim.Native.Nat.{◌+◌, ◌-◌, ◌≤◌}
use mathlib.Core.Path.{◌≡◌}
use lib.ListN.{length}
use Rattle.octets.proofs.number.put_value.Given as goal

abbrev pub invariant-loop-i : goal.invariant-loop-i
invariant-loop-i l = (l.i ≤ l.n) × (length l.out ≡ length l.initial.out) × (sets l.out (l.at + l.i) (little_endian (l.n - l.i) l.rest) ≡ sets l.initial.out l.at (little_endian l.n l.x))

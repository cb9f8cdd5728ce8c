use mathlib.Core.Path.{◌≡◌}
use Prim.Native.Nat.{◌+◌, ◌-◌, ◌^◌, ◌≤◌, ◌<◌}
use Rattle.octets.specs.Numbers.{number_at}
use Rattle.octets.proofs.number.value_at.Given as goal

abbrev pub invariant-loop-i : goal.invariant-loop-i
invariant-loop-i l = (l.i ≤ l.n) × (l.value ≡ number_at (l.n - l.i) l.bytes (l.at + l.i)) × (l.value < 256 ^ (l.n - l.i))

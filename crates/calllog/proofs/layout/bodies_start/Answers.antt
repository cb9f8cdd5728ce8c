use Rattle.calllog.specs.Layout.{bodies_start}
use Prim.Native.Nat.{ℕ, ◌+◌, ◌*◌}
use mathlib.Core.Path.{ap}
use Rattle.calllog.proofs.layout.bodies_start.Goals as goal

pub returns : goal.returns
unfolding bodies_start
returns c = ap (λ (t : ℕ). 6 + 4 * t) c.traces-t.ensures

use mathlib.Core.Path.{refl}
use native.Mathlib.Omega.{arith}
use Rattle.months.proofs.Bytewise.{or-start, or_turn}
use Rattle.months.proofs.joining.join_bytes.Goals as goal

pub loop-i-init : goal.loop-i-init
loop-i-init c = or-start c.args.bytes.now c.args.other.now

pub loop-i-preserved : goal.loop-i-preserved
loop-i-preserved c =
    or_turn c.args.bytes.now c.args.other.now c.loop-i.i (omega arith) (omega arith) c.loop-i.bytes _ c.loop-i.invariant refl

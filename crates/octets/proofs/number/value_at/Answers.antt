use native.Mathlib.Omega.{arith}
use Prim.Native.Nat.{◌+◌, ◌-◌, ◌*◌, ◌^◌, ◌<◌}
use borrow.Author.Rules.{rules}
use Rattle.octets.proofs.Codec.{reading, turn-fits}
use Rattle.octets.proofs.number.value_at.Goals as goal

pub loop-i-init : goal.loop-i-init
loop-i-init c = search (reading, rules)

pub overflow_mul-value : goal.overflow_mul-value
overflow_mul-value c = let f : c.loop-i.value * 256 + 0 < 2 ^ 64 = search (turn-fits, rules) in omega arith

pub overflow_add-value : goal.overflow_add-value
overflow_add-value c =
    let small : c.from.result < 256 = omega (arith, (c.type_inv.bytes (c.args.at + (c.loop-i.i - 1))).fits) in
    search (turn-fits, rules)

pub loop-i-preserved : goal.loop-i-preserved
loop-i-preserved c =
    let small : c.from.result < 256 = omega (arith, (c.type_inv.bytes (c.args.at + (c.loop-i.i - 1))).fits) in
    search (reading, rules)

use Prim.Native.Nat.{◌+◌, ◌-◌, ◌/◌, ◌^◌}
use borrow.Author.Rules.{rules}
use native.Mathlib.Omega.{arith}
use lib.Count.{trailing_le}
use Rattle.sets.proofs.Loops.{nexts}
use Rattle.sets.proofs.set.Set.next.Goals as goal

pub returns-then-up-ne0 : goal.returns-then-up-ne0
returns-then-up-ne0 c = search (nexts, rules)

pub returns-then-n : goal.returns-then-n
returns-then-n c = first_of ((omega (arith, trailing_le 64 (c.args.self.low / 2 ^ (c.args.a.0 + 1)))), (search (nexts, rules)), (omega (arith, trailing_le 64 c.args.self.high)), (omega (arith, trailing_le 64 (c.args.self.high / 2 ^ (c.args.a.0 - 63)))))

pub returns-then-up-ne0-2 : goal.returns-then-up-ne0-2
returns-then-up-ne0-2 c = first_of ((omega (arith, trailing_le 64 (c.args.self.low / 2 ^ (c.args.a.0 + 1)))), (search (nexts, rules)), (omega (arith, trailing_le 64 c.args.self.high)), (omega (arith, trailing_le 64 (c.args.self.high / 2 ^ (c.args.a.0 - 63)))))

pub returns-else-up-ne0-2 : goal.returns-else-up-ne0-2
returns-else-up-ne0-2 c = first_of ((omega (arith, trailing_le 64 (c.args.self.low / 2 ^ (c.args.a.0 + 1)))), (search (nexts, rules)), (omega (arith, trailing_le 64 c.args.self.high)), (omega (arith, trailing_le 64 (c.args.self.high / 2 ^ (c.args.a.0 - 63)))))

pub returns-else-n-2 : goal.returns-else-n-2
returns-else-n-2 c = first_of ((omega (arith, trailing_le 64 (c.args.self.low / 2 ^ (c.args.a.0 + 1)))), (search (nexts, rules)), (omega (arith, trailing_le 64 c.args.self.high)), (omega (arith, trailing_le 64 (c.args.self.high / 2 ^ (c.args.a.0 - 63)))))

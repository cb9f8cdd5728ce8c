use borrow.Author.Rules.{rules}
use Rattle.finish.proofs.Settling.{narrow_start, narrow-taken, narrow-cut, narrow-whole}
use Rattle.finish.proofs.settle.settling.Goals as goal

pub loop-x-init : goal.loop-x-init
loop-x-init c = search (narrow_start, rules)

pub returns-then-is_empty : goal.returns-then-is_empty
returns-then-is_empty c = narrow-cut _ _ _ _ _ c.loop-x.invariant _ _ c.is_empty.ensures c.if-is_empty.true (search rules)

pub loop-x-preserved : goal.loop-x-preserved
loop-x-preserved c = narrow-taken _ _ _ _ _ c.loop-x.invariant _ _ _ c.in-Some.ensures.steps c.narrowed-out.ensures

pub returns : goal.returns
returns c = narrow-whole _ _ _ _ _ c.loop-x.invariant _ c.in-None.ensures.steps.0 (search rules)

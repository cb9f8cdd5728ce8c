use borrow.Author.Rules.{rules}
use Rattle.sets.proofs.Passing.{union-taken, union-whole, members}
use Rattle.steps.proofs.relations.union_of.Goals as goal

pub loop-u-init : goal.loop-u-init
loop-u-init c = search (members, rules)

pub loop-u-preserved : goal.loop-u-preserved
loop-u-preserved c = let inv = c.loop-u.invariant in
    union-taken _ _ _ _ _ _ _ _ inv.0 inv.1 c.in-Some.ensures.steps c.row.ensures c.union-out.ensures

pub returns : goal.returns
returns c = union-whole _ _ _ _ _ c.loop-u.invariant.1 c.in-None.ensures.steps.0 (search rules)

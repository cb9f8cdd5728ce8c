use borrow.Author.Rules.{rules}
use Rattle.sets.proofs.Passing.{members, share-turn, share-end}
use Rattle.sets.proofs.rows.share.Goals as goal

pub loop-a-init : goal.loop-a-init
loop-a-init c = search (members, rules)

pub loop-a-preserved : goal.loop-a-preserved
loop-a-preserved c = share-turn _ _ _ _ _ _ _ _ c.loop-a.invariant.0 c.loop-a.invariant.1 c.in-Some.ensures.steps c.join.ensures

pub returns : goal.returns
returns c = share-end _ _ _ _ _ _ c.loop-a.invariant.1 c.in-None.ensures.steps.0 (search rules)

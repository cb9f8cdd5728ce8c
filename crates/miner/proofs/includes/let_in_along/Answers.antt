use borrow.Author.Rules.{rules}
use Rattle.miner.proofs.After.{let-in-start, let-in-turn, let-in-end}
use Rattle.miner.proofs.includes.let_in_along.Goals as goal

pub loop-i-init : goal.loop-i-init
loop-i-init g c = search (let-in-start, rules)

pub loop-i-preserved : goal.loop-i-preserved
loop-i-preserved g c = let-in-turn c.loop-i.invariant c.loop-i-test.true c.args.last.now c.requires.by_index _ _ _
    c.left_after-after.ensures (c.let_in_here-barred.ensures.row, c.let_in_here-barred.ensures.next)

pub returns : goal.returns
returns g c = search (let-in-end, rules)

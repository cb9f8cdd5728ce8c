use borrow.Author.Rules.{rules}
use Rattle.sets.proofs.Loops.{filling, fill-turn, fill_end}
use Rattle.steps.proofs.rowwise.rows_at.Goals as goal

pub loop-a-init : goal.loop-a-init
loop-a-init g c r gives = search (filling, rules)

pub loop-a-preserved : goal.loop-a-preserved
loop-a-preserved g c r gives =
    fill-turn r (c.loop-a.invariant r gives) _ _ _ _ c.in-Some.ensures.steps (λ l. gives c.in-Some.a l _ c.rule.ensures) c.put.ensures

pub returns : goal.returns
returns g c r gives = fill_end r (c.loop-a.invariant r gives) _ c.in-None.ensures.steps.0 (search rules)

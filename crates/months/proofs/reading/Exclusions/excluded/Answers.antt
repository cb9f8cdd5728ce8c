use borrow.Author.Rules.{rules}
use Rattle.sets.proofs.Loops.{filling, fill-turn}
use Rattle.months.proofs.reading.Exclusions.excluded.Goals as goal

pub loop-a-init : goal.loop-a-init
loop-a-init c = search (filling, rules)

pub loop-a-preserved : goal.loop-a-preserved
loop-a-preserved c = fill-turn _ c.loop-a.invariant _ _ _ _ c.in-Some.ensures.steps (λ l. c.excluded_row-row.ensures) c.put.ensures

pub returns : goal.returns
returns c = search (filling, rules)

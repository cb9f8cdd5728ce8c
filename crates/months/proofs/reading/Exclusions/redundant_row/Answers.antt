use borrow.Author.Rules.{rules}
use Rattle.months.proofs.FromTally.{gather-start, gather-turn, gather-end}
use Rattle.months.proofs.reading.Exclusions.redundant_row.Goals as goal

pub loop-u-init : goal.loop-u-init
loop-u-init c = gather-start _ _

pub loop-u-preserved : goal.loop-u-preserved
loop-u-preserved c = gather-turn _ _ _ _ _ _ _ _ c.loop-u.invariant c.in-Some.ensures.steps c.redundant_by.ensures c.union-out.ensures

pub returns : goal.returns
returns c = gather-end _ _ _ _ _ c.loop-u.invariant c.in-None.ensures.steps.0 (search rules)

use borrow.Author.Rules.{rules}
use Rattle.report.proofs.LineLaws.{row-start, row_room, row-turn, row-end}
use Rattle.report.proofs.relations.put_row.Goals as goal

pub loop-t-init : goal.loop-t-init
loop-t-init c = search (row-start, rules)

pub put_pair-requires : goal.put_pair-requires
put_pair-requires c = row_room _ _ _ _ _ _ c.loop-t.invariant _ _ c.in-Some.ensures.steps c.requires

pub loop-t-preserved : goal.loop-t-preserved
loop-t-preserved c = row-turn _ _ _ _ _ _ c.loop-t.invariant _ _ c.in-Some.ensures.steps _ c.put_pair.ensures

pub returns : goal.returns
returns c = search (row-end, rules)

use borrow.Author.Rules.{rules}
use Rattle.report.proofs.LineLaws.{row-by-row}
use Rattle.report.proofs.relations.put_pairs.Goals as goal

pub loop-a-init : goal.loop-a-init
loop-a-init c = search (row-by-row, rules)

pub put_row-requires : goal.put_row-requires
put_row-requires c = search (row-by-row, rules)

pub loop-a-preserved : goal.loop-a-preserved
loop-a-preserved c = search (row-by-row, rules)

pub returns : goal.returns
returns c = search (row-by-row, rules)

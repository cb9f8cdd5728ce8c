use borrow.Author.Rules.{rules}
use Rattle.desk.proofs.Placing.{placing}
use Rattle.desk.proofs.table.Table.marking_at.Goals as goal

pub overflow_add-start : goal.overflow_add-start
overflow_add-start c = search (placing, rules)

pub returns : goal.returns
returns c = search (placing, rules)

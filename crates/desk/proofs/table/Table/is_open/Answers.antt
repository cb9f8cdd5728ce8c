use borrow.Author.Rules.{rules}
use Rattle.desk.proofs.Placing.{placing}
use Rattle.desk.proofs.table.Table.is_open.Goals as goal

pub returns-then-place-ge-PLACES : goal.returns-then-place-ge-PLACES
returns-then-place-ge-PLACES c = search (placing, rules)

pub bounds-self-start : goal.bounds-self-start
bounds-self-start c = search (placing, rules)

pub returns : goal.returns
returns c = search (placing, rules)

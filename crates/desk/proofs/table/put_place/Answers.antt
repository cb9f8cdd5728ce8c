use borrow.Author.Rules.{rules}
use Rattle.desk.proofs.Placing.{placing}
use Rattle.desk.proofs.table.put_place.Goals as goal

pub bounds-bytes-start : goal.bounds-bytes-start
bounds-bytes-start c = search (placing, rules)

pub returns : goal.returns
returns c = search (placing, rules)

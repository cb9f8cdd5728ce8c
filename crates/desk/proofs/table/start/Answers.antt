use borrow.Author.Rules.{rules}
use Rattle.desk.proofs.Placing.{starts}
use Rattle.desk.proofs.table.start.Goals as goal

pub returns : goal.returns
returns c = search (starts, rules)

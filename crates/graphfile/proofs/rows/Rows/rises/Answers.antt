use borrow.Author.Rules.{rules}
use Rattle.graphfile.proofs.Judging.{keys}
use Rattle.graphfile.proofs.rows.Rows.rises.Goals as goal

pub returns-then-j-eq0 : goal.returns-then-j-eq0
returns-then-j-eq0 c = search (keys, rules)

pub returns : goal.returns
returns c = search (keys, rules)

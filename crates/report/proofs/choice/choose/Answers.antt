use borrow.Author.Rules.{rules}
use Rattle.report.proofs.Choosing.{choosing}
use Rattle.report.proofs.choice.choose.Goals as goal

pub returns-then-count-eq0 : goal.returns-then-count-eq0
returns-then-count-eq0 c = search (choosing, rules)

pub returns-then-count-gt1 : goal.returns-then-count-gt1
returns-then-count-gt1 c = search (choosing, rules)

pub returns : goal.returns
returns c = search (choosing, rules)

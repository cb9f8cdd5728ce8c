use borrow.Author.Rules.{rules}
use Rattle.sets.proofs.Members.{operations}
use Rattle.sets.proofs.set.Set.end.Goals as goal

pub returns-then-high-ne0 : goal.returns-then-high-ne0
returns-then-high-ne0 c = search (operations, rules)

pub returns : goal.returns
returns c = search (operations, rules)

use Rattle.sets.proofs.Members.{operations}
use borrow.Author.Rules.{rules}
use Rattle.sets.proofs.set.Set.without_least.Goals as goal

pub returns-then-low-ne0 : goal.returns-then-low-ne0
returns-then-low-ne0 c = search (operations, rules)

pub returns-then-high-ne0 : goal.returns-then-high-ne0
returns-then-high-ne0 c = search (operations, rules)

pub returns : goal.returns
returns c = search (operations, rules)

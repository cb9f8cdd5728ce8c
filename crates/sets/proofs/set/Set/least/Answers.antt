use borrow.Author.Rules.{rules}
use Rattle.sets.proofs.Members.{operations}
use Rattle.sets.proofs.set.Set.least.Goals as goal

pub returns-then-low-ne0 : goal.returns-then-low-ne0
returns-then-low-ne0 c = search (operations, rules)

pub returns-else-low-ne0 : goal.returns-else-low-ne0
returns-else-low-ne0 c = search (operations, rules)

use Rattle.sets.proofs.Members.{operations}
use borrow.Author.Rules.{rules}
use Rattle.sets.proofs.set.Set.below.Goals as goal

pub returns-then-n-lt-WORD : goal.returns-then-n-lt-WORD
returns-then-n-lt-WORD c = search (operations, rules)

pub returns-then-n-lt-LIMIT : goal.returns-then-n-lt-LIMIT
returns-then-n-lt-LIMIT c = search (operations, rules)

pub returns-else-n-lt-LIMIT : goal.returns-else-n-lt-LIMIT
returns-else-n-lt-LIMIT c = search (operations, rules)

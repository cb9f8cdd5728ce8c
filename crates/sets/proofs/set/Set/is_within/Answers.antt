use Rattle.sets.proofs.Members.{operations}
use borrow.Author.Rules.{rules}
use Rattle.sets.proofs.set.Set.is_within.Goals as goal

pub returns : goal.returns
returns c = search (operations, rules)

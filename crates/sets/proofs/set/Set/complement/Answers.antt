use borrow.Author.Rules.{rules}
use Rattle.sets.proofs.Members.{operations}
use Rattle.sets.proofs.set.Set.complement.Goals as goal

pub returns : goal.returns
returns c = search (operations, rules)

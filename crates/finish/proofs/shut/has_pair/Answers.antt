use borrow.Author.Rules.{rules}
use Rattle.finish.proofs.Shutting.{pair-of_lem}
use Rattle.finish.proofs.shut.has_pair.Goals as goal

pub returns : goal.returns
returns c = search (pair-of_lem, rules)

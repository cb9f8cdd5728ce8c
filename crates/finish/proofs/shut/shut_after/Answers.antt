use borrow.Author.Rules.{rules}
use Rattle.finish.proofs.Shutting.{shutting}
use Rattle.finish.proofs.shut.shut_after.Goals as goal

pub returns-then-has_pair : goal.returns-then-has_pair
returns-then-has_pair c = search (shutting, rules)

pub returns-then-has_pair-2 : goal.returns-then-has_pair-2
returns-then-has_pair-2 c = search (shutting, rules)

pub returns : goal.returns
returns c = search (shutting, rules)

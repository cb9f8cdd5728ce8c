use borrow.Author.Rules.{rules}
use Rattle.steps.proofs.Sources.{excluders-are}
use Rattle.steps.proofs.relations.Sides.excluders.Goals as goal

pub returns : goal.returns
returns c = search (excluders-are, rules)

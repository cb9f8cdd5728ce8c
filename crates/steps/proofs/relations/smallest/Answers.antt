use borrow.Author.Rules.{rules}
use Rattle.steps.proofs.Sources.{smallest-is}
use Rattle.steps.proofs.relations.smallest.Goals as goal

pub returns : goal.returns
returns c = search (smallest-is, rules)

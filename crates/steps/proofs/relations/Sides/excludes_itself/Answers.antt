use borrow.Author.Rules.{rules}
use Rattle.steps.proofs.Sources.{never-again, only-after}
use Rattle.steps.proofs.relations.Sides.excludes_itself.Goals as goal

pub returns-then-not-has : goal.returns-then-not-has
returns-then-not-has c = search (never-again, rules)

pub returns : goal.returns
returns c = search (only-after, rules)

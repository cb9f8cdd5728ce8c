use borrow.Author.Rules.{rules}
use Rattle.engine.proofs.Narrow.{few-not, few-then}
use Rattle.engine.proofs.replay.is_few.Goals as goal

pub returns-then-not-state_within : goal.returns-then-not-state_within
returns-then-not-state_within c = search (few-not, rules)

pub returns : goal.returns
returns c = search (few-then, rules)

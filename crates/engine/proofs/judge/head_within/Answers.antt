use borrow.Author.Rules.{rules}
use Rattle.sets.proofs.Ways.{conjunction}
use Rattle.engine.proofs.Judging.{events-below}
use Rattle.engine.proofs.judge.head_within.Goals as goal

pub returns-then-not-is_within : goal.returns-then-not-is_within
returns-then-not-is_within c = search (conjunction, events-below, rules)

pub returns : goal.returns
returns c = search (conjunction, events-below, rules)

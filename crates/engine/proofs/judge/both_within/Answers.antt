use borrow.Author.Rules.{rules}
use Rattle.sets.proofs.Ways.{conjunction}
use Rattle.engine.proofs.judge.both_within.Goals as goal

pub returns-then-not-graph_within : goal.returns-then-not-graph_within
returns-then-not-graph_within c = search (conjunction, rules)

pub returns : goal.returns
returns c = search (conjunction, rules)

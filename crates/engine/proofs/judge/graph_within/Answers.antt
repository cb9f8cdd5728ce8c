use borrow.Author.Rules.{rules}
use Rattle.sets.proofs.Ways.{conjunction}
use Rattle.engine.specs.Judged.{graph_within}
use Rattle.engine.proofs.judge.graph_within.Goals as goal

pub returns-then-not-head_within : goal.returns-then-not-head_within
returns-then-not-head_within c = unfold graph_within in search (conjunction, rules)

pub returns : goal.returns
returns c = unfold graph_within in search (conjunction, rules)

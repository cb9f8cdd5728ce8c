use Rattle.sets.proofs.Ways.{conjunction}
use borrow.Author.Rules.{rules}
use Rattle.plain.proofs.graph.Graph.both_true.Goals as goal

pub returns-then-is_true : goal.returns-then-is_true
returns-then-is_true c = search (conjunction, rules)

pub returns-else-is_true : goal.returns-else-is_true
returns-else-is_true c = search (conjunction, rules)

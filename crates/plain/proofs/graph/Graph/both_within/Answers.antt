use Rattle.sets.proofs.Ways.{conjunction}
use borrow.Author.Rules.{rules}
use Rattle.plain.proofs.graph.Graph.both_within.Goals as goal

pub returns-then-is_within : goal.returns-then-is_within
returns-then-is_within c = search (conjunction, rules)

pub returns-else-is_within : goal.returns-else-is_within
returns-else-is_within c = search (conjunction, rules)

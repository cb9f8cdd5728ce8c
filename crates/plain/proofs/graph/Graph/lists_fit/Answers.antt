use Rattle.sets.proofs.Ways.{conjunction}
use Rattle.plain.specs.Graphs.{lists_fit}
use borrow.Author.Rules.{rules}
use Rattle.plain.proofs.graph.Graph.lists_fit.Goals as goal

pub returns-then-fits-3 : goal.returns-then-fits-3
returns-then-fits-3 c = unfold lists_fit in search (conjunction, rules)

pub returns-else-fits-3 : goal.returns-else-fits-3
returns-else-fits-3 c = unfold lists_fit in search (conjunction, rules)

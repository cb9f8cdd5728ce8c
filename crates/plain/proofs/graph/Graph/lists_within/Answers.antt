use Rattle.sets.proofs.Ways.{conjunction}
use Rattle.plain.specs.Graphs.{lists_within}
use borrow.Author.Rules.{rules}
use Rattle.plain.proofs.graph.Graph.lists_within.Goals as goal

pub returns-then-pairs_within-3 : goal.returns-then-pairs_within-3
returns-then-pairs_within-3 c = unfold lists_within in search (conjunction, rules)

pub returns-else-pairs_within-3 : goal.returns-else-pairs_within-3
returns-else-pairs_within-3 c = unfold lists_within in search (conjunction, rules)

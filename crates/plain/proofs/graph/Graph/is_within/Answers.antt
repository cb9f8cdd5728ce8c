use Rattle.sets.proofs.Ways.{conjunction}
use Rattle.plain.specs.Graphs.{plain_within}
use borrow.Author.Rules.{rules}
use Rattle.plain.proofs.graph.Graph.is_within.Goals as goal

pub returns-then-head_within : goal.returns-then-head_within
returns-then-head_within c = unfold plain_within in search (conjunction, rules)

pub returns-else-head_within : goal.returns-else-head_within
returns-else-head_within c = unfold plain_within in search (conjunction, rules)

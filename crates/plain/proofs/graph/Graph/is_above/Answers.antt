use Rattle.sets.proofs.Ways.{conjunction}
use Rattle.plain.specs.Graphs.{plain_above}
use Rattle.plain.proofs.PairLaws.{is-not}
use borrow.Author.Rules.{rules}
use Rattle.plain.proofs.graph.Graph.is_above.Goals as goal

pub returns-then-any_above : goal.returns-then-any_above
returns-then-any_above c = unfold plain_above in search (conjunction, is-not, rules)

pub returns-else-any_above : goal.returns-else-any_above
returns-else-any_above c = unfold plain_above in search (conjunction, is-not, rules)

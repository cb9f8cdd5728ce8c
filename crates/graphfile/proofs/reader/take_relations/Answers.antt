use borrow.Author.Rules.{rules}
use Rattle.graphfile.proofs.Filling.{taking-relations, relation-judged, relation-held}
use Rattle.sets.proofs.Order.{turns}
use Rattle.graphfile.proofs.reader.take_relations.Goals as goal

pub loop-r-init : goal.loop-r-init
loop-r-init c = search (taking-relations, rules)

pub returns-then-not-is_done-clause-value : goal.returns-then-not-is_done-clause-value
returns-then-not-is_done-clause-value c = search (turns, relation-judged, rules)

pub loop-r-preserved : goal.loop-r-preserved
loop-r-preserved c = search (taking-relations, relation-judged, relation-held, rules)

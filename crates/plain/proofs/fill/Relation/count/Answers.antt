use Rattle.plain.proofs.Putting.{count-begin, count_next, count-end}
use borrow.Author.Rules.{rules}
use Rattle.plain.proofs.fill.Relation.count.Goals as goal

pub loop-k-init : goal.loop-k-init
loop-k-init c = search (count-begin, count_next, count-end, rules)

pub loop-k-preserved : goal.loop-k-preserved
loop-k-preserved c = search (count-begin, count_next, count-end, rules)

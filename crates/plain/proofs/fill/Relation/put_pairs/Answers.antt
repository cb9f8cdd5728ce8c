use Rattle.plain.proofs.Putting.{count-begin, place-next, room, put-begin, put_next, put-end, put-length}
use borrow.Author.Rules.{rules}
use Rattle.plain.proofs.fill.Relation.put_pairs.Goals as goal

pub loop-k-init : goal.loop-k-init
loop-k-init c = search (count-begin, put-begin, room, place-next, put_next, put-length, put-end, rules)

pub put_pair-n-requires : goal.put_pair-n-requires
put_pair-n-requires c = search (count-begin, put-begin, room, place-next, put_next, put-length, put-end, rules)

pub loop-k-preserved : goal.loop-k-preserved
loop-k-preserved c = search (count-begin, put-begin, room, place-next, put_next, put-length, put-end, rules)

use borrow.Author.Rules.{rules}
use Rattle.months.proofs.Gaining.{last-low, where-last, where-not}
use Rattle.months.proofs.pairs.Cuts.join_last.Goals as goal

pub join_back-requires : goal.join_back-requires
join_back-requires c = search (last-low, rules)

pub returns-then-is_last : goal.returns-then-is_last
returns-then-is_last c = where-last _ _ _ _ _ c.is_last.ensures c.if-is_last.true c.join_back.ensures

pub returns-else-is_last : goal.returns-else-is_last
returns-else-is_last c = where-not _ _ _ _ c.is_last.ensures c.if-is_last.false

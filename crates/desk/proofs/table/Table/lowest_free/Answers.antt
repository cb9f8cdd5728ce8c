use borrow.Author.Rules.{rules}
use borrow.Author.Count.{below_none}
use Rattle.sets.proofs.Ways.{every_more}
use Rattle.desk.proofs.Placing.{lowest}
use Rattle.desk.proofs.table.Table.lowest_free.Goals as goal

pub returns-then-not-is_open : goal.returns-then-not-is_open
returns-then-not-is_open c = search (below_none, lowest, every_more, rules)

pub returns : goal.returns
returns c = search (below_none, lowest, every_more, rules)

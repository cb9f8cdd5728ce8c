use borrow.Author.Rules.{rules}
use Rattle.miner.proofs.Settling.{lost-by, none-lost}
use Rattle.miner.proofs.redundant.Sources.lose_by.Goals as goal

pub returns-then-not-is_empty : goal.returns-then-not-is_empty
returns-then-not-is_empty c = search (lost-by, rules)

pub returns-else-not-is_empty : goal.returns-else-not-is_empty
returns-else-not-is_empty c = search (none-lost, rules)

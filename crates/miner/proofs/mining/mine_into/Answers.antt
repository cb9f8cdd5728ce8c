use borrow.Author.Rules.{rules}
use Rattle.miner.proofs.FromLog.{lent}
use Rattle.miner.proofs.mining.mine_into.Goals as goal

pub returns-then-not-is_done-clause-value : goal.returns-then-not-is_done-clause-value
returns-then-not-is_done-clause-value c = search (lent, rules)

pub returns-then-not-is_done-clause-relations_after : goal.returns-then-not-is_done-clause-relations_after
returns-then-not-is_done-clause-relations_after c = search (lent, rules)

pub returns-clause-value : goal.returns-clause-value
returns-clause-value c = search (lent, rules)

pub returns-clause-relations_after : goal.returns-clause-relations_after
returns-clause-relations_after c = search (lent, rules)

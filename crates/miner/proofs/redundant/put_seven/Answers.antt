use borrow.Author.Rules.{rules}
use Rattle.miner.proofs.Composed.{seven-by}
use Rattle.miner.proofs.redundant.put_seven.Goals as goal

pub returns : goal.returns
returns c = search (seven-by, rules)

use borrow.Author.Rules.{rules}
use Rattle.miner.proofs.Composed.{eight-from}
use Rattle.miner.proofs.mining.put_eight.Goals as goal

pub returns : goal.returns
returns g c = search (eight-from, rules)

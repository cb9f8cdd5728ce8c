use borrow.Author.Rules.{rules}
use Rattle.tally.proofs.Walks.{through-next, through-end}
use Rattle.miner.proofs.includes.let_in_log.Invariants.{pass}
use Rattle.miner.proofs.includes.let_in_log.Goals as goal

pub loop-k-preserved : goal.loop-k-preserved
loop-k-preserved g c = (search rules, search (through-next, rules))

pub returns : goal.returns
returns g c = through-end (pass _ _) _ _ _ _ _ c.loop-k-test.false c.loop-k.invariant.1

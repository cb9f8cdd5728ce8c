use borrow.Author.Rules.{rules}
use Rattle.tally.proofs.Walks.{through-next, through-end}
use Rattle.miner.proofs.conditions.replay_log.Invariants.{ahead, waiting}
use Rattle.miner.proofs.conditions.replay_log.Goals as goal

pub loop-k-preserved : goal.loop-k-preserved
loop-k-preserved g c = (search rules, search (through-next, rules), search (through-next, rules))

pub returns-clause-first_after : goal.returns-clause-first_after
returns-clause-first_after g c = through-end (ahead _) _ _ _ _ _ c.loop-k-test.false c.loop-k.invariant.1

pub returns-clause-unmet_after : goal.returns-clause-unmet_after
returns-clause-unmet_after g c = through-end (waiting _ _ _) _ _ _ _ _ c.loop-k-test.false c.loop-k.invariant.2

use Rattle.tally.proofs.Turns.{joined-row}
use Rattle.miner.proofs.After.{barred-by}
use Rattle.miner.proofs.includes.let_in_here.Goals as goal

pub returns-clause-row : goal.returns-clause-row
returns-clause-row g c = joined-row _ _ _ _ _ c.intersection-back.ensures c.join.ensures

pub returns-clause-next : goal.returns-clause-next
returns-clause-next g c = barred-by _ _ _ _ _ _ _ c.row.ensures c.in_form-never.ensures c.union.ensures

use Rattle.tally.proofs.Turns.{with-one}
use Rattle.miner.proofs.includes.and_then.Goals as goal

pub returns : goal.returns
returns c = with-one _ _ _ _ c.one.ensures c.union.ensures

use Rattle.miner.proofs.Settling.{sure-then-open}
use Rattle.miner.proofs.redundant.Sources.settle.Goals as goal

pub returns : goal.returns
returns c = sure-then-open _ _ _ _ _ _ _ _ _ _ _ c.row-later.ensures c.lose_sure.ensures c.lose_open.ensures

use Rattle.miner.proofs.Settling.{open-lost}
use Rattle.miner.proofs.redundant.Sources.lose_open.Goals as goal

pub returns : goal.returns
returns c = open-lost _ _ _ _ _ _ c.reopen_log.ensures c.lose_doubted.ensures

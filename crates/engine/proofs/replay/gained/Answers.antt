use Rattle.engine.proofs.Narrow.{gained-by_lem}
use Rattle.engine.proofs.replay.gained.Goals as goal

pub returns : goal.returns
returns c = gained-by_lem _ _ _ _ _ c.row-responses.ensures c.row.ensures c.union.ensures

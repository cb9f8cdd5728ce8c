use Rattle.finish.proofs.Settling.{narrowed-by}
use Rattle.finish.proofs.settle.narrowed.Goals as goal

pub returns : goal.returns
returns c = narrowed-by _ _ _ _ _ c.row.ensures c.intersection.ensures

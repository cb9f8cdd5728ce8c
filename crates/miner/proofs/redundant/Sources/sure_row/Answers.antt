use mathlib.Core.Path.{refl}
use Rattle.sets.proofs.MadeSets.{less}
use Rattle.miner.proofs.Settling.{doubted-is}
use Rattle.miner.proofs.redundant.Sources.sure_row.Goals as goal

pub returns : goal.returns
returns c = less _ _ _ _ _ (λ a l. refl)
    (doubted-is _ _ _ _ _ _ _ c.row.ensures c.intersection-between.ensures c.union_of.ensures)
    c.difference.ensures

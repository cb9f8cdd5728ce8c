use Rattle.sets.proofs.MadeSets.{less, is_row}
use Rattle.miner.proofs.redundant.Sources.shut_out.Goals as goal

pub returns : goal.returns
returns c = less _ _ _ _ _ (is_row _ _ _ c.row.ensures) (is_row _ _ _ c.row-2.ensures) c.difference.ensures

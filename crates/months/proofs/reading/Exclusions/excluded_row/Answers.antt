use Rattle.months.proofs.FromTally.{excluded-is}
use Rattle.months.proofs.reading.Exclusions.excluded_row.Goals as goal

pub returns : goal.returns
returns c = excluded-is _ _ _ _ _ _ _ _ _ c.row.ensures c.redundant_row-gone.ensures c.row-2.ensures c.difference.ensures

use Rattle.months.proofs.FromTally.{redundant-is}
use Rattle.months.proofs.reading.Exclusions.redundant_by.Goals as goal

pub returns : goal.returns
returns c = redundant-is _ _ _ _ _ _ _ _ _ _ _ c.row.ensures c.row-2.ensures c.difference-shut.ensures
    c.between.ensures.value c.union_of-back.ensures c.difference.ensures

use Rattle.months.proofs.FromTally.{includers-is}
use Rattle.months.proofs.reading.Reading.includers_row.Goals as goal

pub returns : goal.returns
returns c = includers-is _ _ _ _ _ _ _ _ _ _ c.row.ensures c.let_in-back.ensures c.row-2.ensures c.union.ensures
    c.intersection.ensures

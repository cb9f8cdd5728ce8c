use Rattle.months.proofs.FromTally.{rows_start, rows-turn, rows-end_lem, row-those}
use Rattle.months.proofs.reading.rows_in.Goals as goal

pub loop-i-init : goal.loop-i-init
loop-i-init c = rows_start _ _ c.empty-out.ensures

pub loop-i-preserved : goal.loop-i-preserved
loop-i-preserved c =
    rows-turn _ _ _ _ _ (row-those _ _ _ _ (c.row.ensures.value, c.row.ensures.result_value)) c.loop-i.invariant c.put.ensures

pub returns : goal.returns
returns c = rows-end_lem _ _ _ c.loop-i-test.false c.loop-i.auto.i-end c.loop-i.invariant

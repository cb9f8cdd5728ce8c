use Rattle.engine.proofs.Stepping.{next-by}
use Rattle.engine.proofs.step.next.Goals as goal

pub returns : goal.returns
returns c = let included = c in
    let lost = included in
    let pending = lost in
    let executed = pending in
    next-by _ _ _ _ _ _ _ _ _ _ _ executed.one-one.ensures executed.union-executed.ensures pending.row.ensures pending.changed-pending.ensures
    lost.row-lost.ensures included.row-2.ensures included.changed-included.ensures c.of.ensures

use mathlib.Core.Path.{refl}
use Rattle.port.proofs.Tallied.{rows-begin, rows_next, rows_long, rows-finish}
use Rattle.port.proofs.tallies.put_rows.Goals as goal

pub loop-i-init : goal.loop-i-init
loop-i-init c = let a = c.args in (c.requires, refl, rows-begin a.relations.now a.out.now)

pub loop-i-preserved : goal.loop-i-preserved
loop-i-preserved c = let v = c.loop-i.invariant in
    let a = c.args in (
      v.0,
      rows_long a.relations.now a.out.now _ _ _ _ c.put_set.ensures v.1,
      rows_next a.relations.now a.out.now _ _ _ _ v.0 c.loop-i-test.true c.row_of_all.ensures v.2 c.put_set.ensures,
    )

pub returns : goal.returns
returns c = let v = c.loop-i.invariant in
    let a = c.args in
    rows-finish a.relations.now a.out.now _ _ c.loop-i-test.false c.loop-i.auto.i-end v.2

use Rattle.plain.proofs.Enabling.{with-target-by}
use Rattle.plain.proofs.enabled.with_target.Goals as goal

pub returns : goal.returns
returns c = with-target-by _ _ _ c.target-a.ensures _ _ _ _ c.is_blocking.ensures
    c.one_if-one.ensures c.union.ensures

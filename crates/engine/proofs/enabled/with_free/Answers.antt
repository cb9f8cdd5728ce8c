use Rattle.engine.proofs.Enabling.{joined_free}
use Rattle.engine.proofs.enabled.with_free.Goals as goal

pub returns : goal.returns
returns c = joined_free _ _ _ _ _ _ _ _ c.blocking.ensures c.is_empty.ensures
    c.one_if-one.ensures c.union.ensures

use Rattle.miner.proofs.Replaying.{included-by}
use Rattle.miner.proofs.conditions.included_after.Goals as goal

pub returns : goal.returns
returns g c = included-by _ _ _ _ _ _ _ _ _ _ c.row.ensures
    c.difference-kept.ensures c.row-2.ensures c.in_form.ensures c.union.ensures

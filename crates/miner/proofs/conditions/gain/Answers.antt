use mathlib.Core.Path.{refl}
use Rattle.sets.proofs.Ways.{is-so, taken, passed-by}
use Rattle.tally.specs.Passes.{gained, gained_for}
use Rattle.miner.proofs.conditions.gain.Goals as goal

pub returns-then-holds : goal.returns-then-holds
unfolding gained gained_for
returns-then-holds g c = taken _ _ _ _ (is-so _ _ _ c.holds.ensures c.if-holds.true) c.join.ensures

pub returns-else-holds : goal.returns-else-holds
unfolding gained_for
returns-else-holds g c = passed-by _ _ _ _ (is-so _ _ _ c.holds.ensures c.if-holds.false) refl

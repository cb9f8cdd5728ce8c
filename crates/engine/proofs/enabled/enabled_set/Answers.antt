use Rattle.engine.proofs.Enabling.{gathered-low, gathered-all}
use Rattle.engine.proofs.enabled.enabled_set.Goals as goal

pub returns-then-is_within : goal.returns-then-is_within
returns-then-is_within c = let end = c in
    let made = end in
    let asked = made in
    gathered-low _ _ _ _ _ _ _ _ _ _ asked.below.ensures asked.intersection-live.ensures asked.is_within.ensures
    made.if-is_within.true made.few.ensures made.of-near.ensures end.few-then-is_within.ensures end.end-end.ensures
    _ _ c.free.ensures c.intersection.ensures

pub returns : goal.returns
returns c = gathered-all _ _ _ _ _ _ c.intersection-live.ensures c.free-2.ensures c.intersection-2.ensures

use Rattle.miner.proofs.Replaying.{replay-start, replay-turn, replay-end}
use Rattle.miner.proofs.conditions.replay_trace.Goals as goal

pub loop-n-init : goal.loop-n-init
loop-n-init g c events h = replay-start _ _ _ _ _ _ _ _ h

pub loop-n-preserved : goal.loop-n-preserved
loop-n-preserved g c events h = replay-turn (c.loop-n.invariant events h) c.loop-n-test.true _ _ _ _ c.included_after-included.ensures
    (c.note.ensures.before, c.note.ensures.left) c.and_then-seen.ensures

pub returns-clause-before : goal.returns-clause-before
returns-clause-before g c = (replay-end (c.loop-n.invariant _ c.in_form-included.ensures) c.loop-n-test.false).0

pub returns-clause-left : goal.returns-clause-left
returns-clause-left g c = (replay-end (c.loop-n.invariant _ c.in_form-included.ensures) c.loop-n-test.false).1

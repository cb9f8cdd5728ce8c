use Rattle.tally.proofs.LookBack.{put-known, far-known}
use Rattle.tally.proofs.look_back.Blocks.put_down.Goals as goal

pub returns-then-at-lt-PLACES : goal.returns-then-at-lt-PLACES
returns-then-at-lt-PLACES c = put-known _ _ _ _ _ c.one.ensures c.join.ensures c.requires

pub returns-else-at-lt-PLACES : goal.returns-else-at-lt-PLACES
returns-else-at-lt-PLACES c = far-known _ _ _ c.if-at-lt-PLACES.false c.requires

use borrow.Author.Rules.{rules}
use Rattle.engine.specs.Replay.{replay_of}
use Rattle.engine.proofs.Running.{replay-refused, replay-done}
use Rattle.engine.proofs.replay.replay.Goals as goal

pub returns-then-not-is_done : goal.returns-then-not-is_done
unfolding replay_of
returns-then-not-is_done c = search (replay-refused, rules)

pub returns : goal.returns
unfolding replay_of
returns c = search (replay-done, rules)

use Rattle.engine.proofs.Running.{replay-refused, replay-done}
use Rattle.plain.specs.Results.{plain_replay_of}
use borrow.Author.Rules.{rules}
use Rattle.plain.proofs.replay.replay.Goals as goal

pub returns-then-not-is_done : goal.returns-then-not-is_done
returns-then-not-is_done c = unfold plain_replay_of in search (replay-refused, rules)

pub returns : goal.returns
returns c = unfold plain_replay_of in search (replay-done, rules)

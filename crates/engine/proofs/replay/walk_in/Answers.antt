use borrow.Author.Rules.{rules}
use Rattle.engine.proofs.replay.walk_in.Goals as goal

pub returns-then-wide : goal.returns-then-wide
returns-then-wide c = search rules

pub returns : goal.returns
returns c = search rules

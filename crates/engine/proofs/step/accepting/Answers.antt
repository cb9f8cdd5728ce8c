use borrow.Author.Rules.{rules}
use Rattle.engine.specs.Replay.{accepting_of}
use Rattle.engine.proofs.Running.{verdict-refused, verdict-done}
use Rattle.engine.proofs.step.accepting.Goals as goal

pub returns-then-not-is_done : goal.returns-then-not-is_done
unfolding accepting_of
returns-then-not-is_done c = search (verdict-refused, rules)

pub returns : goal.returns
unfolding accepting_of
returns c = search (verdict-done, rules)

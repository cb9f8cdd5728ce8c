use borrow.Author.Rules.{rules}
use Rattle.engine.proofs.Running.{walked-run}
use Rattle.engine.proofs.replay.run.Goals as goal

pub returns : goal.returns
returns c = search (walked-run, rules)

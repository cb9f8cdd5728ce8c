use borrow.Author.Rules.{rules}
use Rattle.engine.proofs.Stepping.{blocking-by}
use Rattle.engine.proofs.step.blocking.Goals as goal

pub returns : goal.returns
returns c = search (blocking-by, rules)

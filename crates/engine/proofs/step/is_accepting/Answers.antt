use borrow.Author.Rules.{rules}
use Rattle.engine.proofs.Stepping.{accepting-by}
use Rattle.engine.proofs.step.is_accepting.Goals as goal

pub returns : goal.returns
returns c = search (accepting-by, rules)

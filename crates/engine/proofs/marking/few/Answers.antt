use borrow.Author.Rules.{rules}
use Rattle.engine.proofs.Narrow.{few-by}
use Rattle.engine.proofs.marking.few.Goals as goal

pub returns : goal.returns
returns c = search (few-by, rules)

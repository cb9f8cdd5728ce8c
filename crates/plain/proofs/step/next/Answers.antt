use Rattle.plain.proofs.Stepping.{next-by}
use borrow.Author.Rules.{rules}
use Rattle.plain.proofs.step.next.Goals as goal

pub returns : goal.returns
returns c = search (next-by, rules)

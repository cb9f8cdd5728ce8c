use borrow.Author.Rules.{rules}
use Rattle.port.proofs.Packing.{packed-is}
use Rattle.port.proofs.packed.Goals as goal

pub returns-clause-value : goal.returns-clause-value
returns-clause-value c = search (packed-is, rules)

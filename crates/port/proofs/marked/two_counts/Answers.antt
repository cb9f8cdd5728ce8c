use borrow.Author.Rules.{rules}
use Rattle.port.proofs.Marks.{two-packed}
use Rattle.port.proofs.marked.two_counts.Goals as goal

pub returns-clause-value : goal.returns-clause-value
returns-clause-value c = search (two-packed, rules)

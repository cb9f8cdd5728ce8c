use borrow.Author.Rules.{rules}
use Rattle.port.proofs.Marks.{counts-packed}
use Rattle.port.proofs.marked.packed_counts.Goals as goal

pub returns : goal.returns
returns c = search (counts-packed, rules)

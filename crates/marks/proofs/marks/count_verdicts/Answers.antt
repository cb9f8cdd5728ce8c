use borrow.Author.Rules.{rules}
use Rattle.marks.proofs.Counting.{counting}
use Rattle.marks.proofs.marks.count_verdicts.Goals as goal

pub with-counts-requires : goal.with-counts-requires
with-counts-requires c = search (counting, rules)

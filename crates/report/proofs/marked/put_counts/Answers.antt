use borrow.Author.Rules.{rules}
use Rattle.report.proofs.MarkLaws.{counts-1, counts-2, counts-3, counts-4, counts-put}
use Rattle.report.proofs.marked.put_counts.Goals as goal

pub named-requires : goal.named-requires
named-requires c = search (counts-1, rules)

pub named-requires-2 : goal.named-requires-2
named-requires-2 c = search (counts-2, rules)

pub named-requires-3 : goal.named-requires-3
named-requires-3 c = search (counts-3, rules)

pub named-requires-4 : goal.named-requires-4
named-requires-4 c = search (counts-4, rules)

pub returns : goal.returns
returns c = search (counts-put, rules)

use borrow.Author.Rules.{rules}
use Rattle.report.proofs.PutLaws.{of-four-1, of-four-2, of-four-3, of-four-4, put_four}
use Rattle.report.proofs.heading.put_counts.Goals as goal

pub named-requires : goal.named-requires
named-requires c = search (of-four-1, rules)

pub named-requires-2 : goal.named-requires-2
named-requires-2 c = search (of-four-2, rules)

pub named-requires-3 : goal.named-requires-3
named-requires-3 c = search (of-four-3, rules)

pub named-requires-4 : goal.named-requires-4
named-requires-4 c = search (of-four-4, rules)

pub returns : goal.returns
returns c = search (put_four, rules)

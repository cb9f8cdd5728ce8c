use borrow.Author.Rules.{rules}
use Rattle.report.proofs.PutLaws.{of-three-1, of-three-2, of-three-3, put_three}
use Rattle.report.proofs.heading.put_heading.Goals as goal

pub put_events-requires : goal.put_events-requires
put_events-requires c = search (of-three-1, rules)

pub put_pair_counts-requires : goal.put_pair_counts-requires
put_pair_counts-requires c = search (of-three-2, rules)

pub named-requires : goal.named-requires
named-requires c = search (of-three-3, rules)

pub returns : goal.returns
returns c = search (put_three, rules)

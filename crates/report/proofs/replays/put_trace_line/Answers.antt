use borrow.Author.Rules.{rules}
use Rattle.report.proofs.PutLaws.{of-four-1, of-four-2, of-four-3, of-four-4, put_four}
use Rattle.report.proofs.replays.put_trace_line.Goals as goal

pub named-requires : goal.named-requires
named-requires c = search (of-four-1, rules)

pub number-requires : goal.number-requires
number-requires c = search (of-four-2, rules)

pub number-requires-2 : goal.number-requires-2
number-requires-2 c = search (of-four-3, rules)

pub number-requires-3 : goal.number-requires-3
number-requires-3 c = search (of-four-4, rules)

pub returns : goal.returns
returns c = search (put_four, rules)

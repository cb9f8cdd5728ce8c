use borrow.Author.Rules.{rules}
use Rattle.report.proofs.MarkLaws.{measuring}
use Rattle.report.proofs.marked.put_measure.Goals as goal

pub word-requires : goal.word-requires
word-requires c = search (measuring, rules)

pub word-requires-then-m-eq0 : goal.word-requires-then-m-eq0
word-requires-then-m-eq0 c = search (measuring, rules)

pub named-requires : goal.named-requires
named-requires c = search (measuring, rules)

pub number-requires : goal.number-requires
number-requires c = search (measuring, rules)

pub returns-then-m-eq0 : goal.returns-then-m-eq0
returns-then-m-eq0 c = search (measuring, rules)

pub returns-else-m-eq0 : goal.returns-else-m-eq0
returns-else-m-eq0 c = search (measuring, rules)

use borrow.Author.Rules.{rules}
use Rattle.report.proofs.SummaryLaws.{count-by-count}
use Rattle.report.proofs.summary.put_counts.Goals as goal

pub loop-a-init : goal.loop-a-init
loop-a-init c = search (count-by-count, rules)

pub byte-requires : goal.byte-requires
byte-requires c = search (count-by-count, rules)

pub loop-a-preserved : goal.loop-a-preserved
loop-a-preserved c = search (count-by-count, rules)

pub returns : goal.returns
returns c = search (count-by-count, rules)

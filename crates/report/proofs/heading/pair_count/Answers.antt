use borrow.Author.Rules.{rules}
use Rattle.report.proofs.PairLaws.{counting}
use Rattle.report.proofs.heading.pair_count.Goals as goal

pub loop-a-preserved : goal.loop-a-preserved
loop-a-preserved c = search (counting, rules)

pub returns : goal.returns
returns c = search (counting, rules)

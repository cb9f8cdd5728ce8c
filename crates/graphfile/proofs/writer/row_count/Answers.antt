use borrow.Author.Rules.{rules}
use Rattle.graphfile.proofs.RowStores.{counts}
use Rattle.graphfile.proofs.writer.row_count.Goals as goal

pub loop-a-preserved : goal.loop-a-preserved
loop-a-preserved g c = search (counts, rules)

pub returns-clause-value : goal.returns-clause-value
returns-clause-value g c = search (counts, rules)

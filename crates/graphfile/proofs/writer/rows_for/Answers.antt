use borrow.Author.Rules.{rules}
use Rattle.graphfile.proofs.RowStores.{one-row}
use Rattle.graphfile.proofs.writer.rows_for.Goals as goal

pub returns-then-is_empty-clause-value : goal.returns-then-is_empty-clause-value
returns-then-is_empty-clause-value c = search (one-row, rules)

pub returns-clause-value : goal.returns-clause-value
returns-clause-value c = search (one-row, rules)

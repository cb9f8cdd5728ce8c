use borrow.Author.Rules.{rules}
use Rattle.graphfile.proofs.RowLengths.{lengths}
use Rattle.graphfile.proofs.layout.rows_length.Goals as goal

pub overflow_mul-result : goal.overflow_mul-result
overflow_mul-result c = search (lengths, rules)

pub returns : goal.returns
returns c = search (lengths, rules)

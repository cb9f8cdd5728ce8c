use borrow.Author.Rules.{rules}
use Rattle.graphfile.proofs.Places.{rows-end_lem, rows_few}
use Rattle.graphfile.proofs.file.File.rows.Goals as goal

pub invariant_of-result : goal.invariant_of-result
invariant_of-result c = search (rows-end_lem, rows_few, rules)

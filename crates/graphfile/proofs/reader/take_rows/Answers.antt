use borrow.Author.Rules.{rules}
use Rattle.graphfile.proofs.reader.take_rows.Goals as goal

pub take_rows_in-requires : goal.take_rows_in-requires
take_rows_in-requires c = search rules

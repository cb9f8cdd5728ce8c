use borrow.Author.Rules.{rules}
use Rattle.graphfile.proofs.Stores.{entry-stored}
use Rattle.graphfile.proofs.Forms.{forms}
use Rattle.graphfile.proofs.writer.put_entry.Goals as goal

pub overflow_cast-rows_length : goal.overflow_cast-rows_length
overflow_cast-rows_length c = search (entry-stored, forms, rules)

pub returns : goal.returns
returns c = search (entry-stored, forms, rules)

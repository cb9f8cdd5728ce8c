use borrow.Author.Rules.{rules}
use Rattle.graphfile.proofs.Forms.{forms, walking}
use Rattle.graphfile.proofs.rows.Rows.set.Goals as goal

pub overflow_add-at : goal.overflow_add-at
overflow_add-at c = search (forms, walking, rules)

pub set_in-requires : goal.set_in-requires
set_in-requires c = search (forms, walking, rules)

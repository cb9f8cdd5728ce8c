use borrow.Author.Rules.{rules}
use Rattle.graphfile.proofs.Forms.{forms}
use Rattle.graphfile.proofs.layout.row_place.Goals as goal

pub overflow_add-result : goal.overflow_add-result
overflow_add-result c = search (forms, rules)

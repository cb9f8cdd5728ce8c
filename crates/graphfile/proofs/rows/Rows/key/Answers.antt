use borrow.Author.Rules.{rules}
use Rattle.graphfile.proofs.Forms.{forms, walking}
use Rattle.graphfile.proofs.rows.Rows.key.Goals as goal

pub bounds-self-row_place : goal.bounds-self-row_place
bounds-self-row_place c = search (forms, walking, rules)

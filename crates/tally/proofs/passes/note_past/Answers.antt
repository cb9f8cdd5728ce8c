use borrow.Author.Rules.{rules}
use Rattle.tally.proofs.Turns.{past-put}
use Rattle.tally.proofs.passes.note_past.Goals as goal

pub returns : goal.returns
returns g c = search (past-put, rules)

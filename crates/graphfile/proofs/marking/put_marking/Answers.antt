use borrow.Author.Rules.{rules}
use Rattle.graphfile.proofs.LoneMarkings.{marking-stored}
use Rattle.graphfile.proofs.marking.put_marking.Goals as goal

pub returns : goal.returns
returns c = search (marking-stored, rules)

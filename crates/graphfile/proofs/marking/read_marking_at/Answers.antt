use borrow.Author.Rules.{rules}
use Rattle.graphfile.proofs.LoneMarkings.{lone}
use Rattle.graphfile.proofs.marking.read_marking_at.Goals as goal

pub returns-then-too_few : goal.returns-then-too_few
returns-then-too_few c = search (lone, rules)

pub returns : goal.returns
returns c = search (lone, rules)

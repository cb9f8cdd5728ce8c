use borrow.Author.Rules.{rules}
use Rattle.graphfile.proofs.LoneMarkings.{lone}
use Rattle.graphfile.proofs.marking.write_marking_at.Goals as goal

pub returns-then-not-too_few : goal.returns-then-not-too_few
returns-then-not-too_few c = search (lone, rules)

pub returns-else-not-too_few : goal.returns-else-not-too_few
returns-else-not-too_few c = search (lone, rules)

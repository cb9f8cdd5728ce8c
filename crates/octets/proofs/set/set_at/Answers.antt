use borrow.Author.Rules.{rules}
use Rattle.octets.proofs.SetLaws.{reading}
use Rattle.octets.proofs.set.set_at.Goals as goal

pub returns-then-too_few : goal.returns-then-too_few
returns-then-too_few c = search (reading, rules)

pub returns-then-wide : goal.returns-then-wide
returns-then-wide c = search (reading, rules)

pub returns : goal.returns
returns c = search (reading, rules)

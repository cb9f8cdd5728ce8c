use borrow.Author.Rules.{rules}
use Rattle.octets.proofs.NumberLaws.{numbering}
use Rattle.octets.proofs.number.put_number.Goals as goal

pub returns-then-not-too_few : goal.returns-then-not-too_few
returns-then-not-too_few c = search (numbering, rules)

pub returns-else-not-too_few : goal.returns-else-not-too_few
returns-else-not-too_few c = search (numbering, rules)

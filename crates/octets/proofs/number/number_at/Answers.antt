use borrow.Author.Rules.{rules}
use Rattle.octets.proofs.NumberLaws.{numbering}
use Rattle.octets.proofs.number.number_at.Goals as goal

pub returns-then-too_few : goal.returns-then-too_few
returns-then-too_few c = search (numbering, rules)

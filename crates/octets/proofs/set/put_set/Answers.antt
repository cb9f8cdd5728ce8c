use borrow.Author.Rules.{rules}
use Rattle.octets.proofs.SetLaws.{storing}
use Rattle.octets.proofs.set.put_set.Goals as goal

pub returns-then-wide : goal.returns-then-wide
returns-then-wide c = search (storing, rules)

pub returns-else-wide : goal.returns-else-wide
returns-else-wide c = search (storing, rules)

pub returns-else-not-too_few : goal.returns-else-not-too_few
returns-else-not-too_few c = search (storing, rules)

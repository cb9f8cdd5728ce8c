use borrow.Author.Rules.{rules}
use Rattle.octets.proofs.Editions.{editions}
use Rattle.octets.proofs.edition.is_beyond.Goals as goal

pub returns-then-activities-gt-LIMIT : goal.returns-then-activities-gt-LIMIT
returns-then-activities-gt-LIMIT c = search (editions, rules)

pub returns : goal.returns
returns c = search (editions, rules)

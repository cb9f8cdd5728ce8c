use borrow.Author.Rules.{rules}
use Rattle.octets.proofs.Editions.{editions}
use Rattle.octets.proofs.edition.edition_for.Goals as goal

pub returns-then-activities-gt-WORD : goal.returns-then-activities-gt-WORD
returns-then-activities-gt-WORD c = search (editions, rules)

pub returns : goal.returns
returns c = search (editions, rules)

use borrow.Author.Rules.{rules}
use Rattle.octets.proofs.Editions.{editions}
use Rattle.octets.proofs.edition.opens_file.Goals as goal

pub returns-then-not-opens_with : goal.returns-then-not-opens_with
returns-then-not-opens_with c = search (editions, rules)

pub returns-then-edition-eq-NARROW : goal.returns-then-edition-eq-NARROW
returns-then-edition-eq-NARROW c = search (editions, rules)

pub returns : goal.returns
returns c = search (editions, rules)

use borrow.Author.Rules.{rules}
use Rattle.report.proofs.Lending.{lending}
use Rattle.report.proofs.lent.longest_in.Goals as goal

pub returns-then-edition_in-eq-WIDE : goal.returns-then-edition_in-eq-WIDE
returns-then-edition_in-eq-WIDE c = search (lending, rules)

pub returns : goal.returns
returns c = search (lending, rules)

use Rattle.plain.proofs.Putting.{of-conditions, of_others}
use borrow.Author.Rules.{rules}
use Rattle.plain.proofs.fill.Relation.has_pair.Goals as goal

pub returns-then-self-eq-CONDITIONS : goal.returns-then-self-eq-CONDITIONS
returns-then-self-eq-CONDITIONS c = search (of-conditions, rules)

pub returns : goal.returns
returns c = search (of_others, c.if-self-eq-CONDITIONS.false, rules)

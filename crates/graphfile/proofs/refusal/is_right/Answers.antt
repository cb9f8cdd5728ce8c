use Rattle.graphfile.proofs.Judging.{right-by-row}
use borrow.Author.Rules.{rules}
use Rattle.graphfile.proofs.refusal.is_right.Goals as goal

pub returns-then-not-has : goal.returns-then-not-has
returns-then-not-has c = search (right-by-row, rules)

pub returns-then-is_empty : goal.returns-then-is_empty
returns-then-is_empty c = search (right-by-row, rules)

pub returns-then-not-is_within : goal.returns-then-not-is_within
returns-then-not-is_within c = search (right-by-row, rules)

pub returns : goal.returns
returns c = search (right-by-row, rules)

use Rattle.graphfile.proofs.Judging.{row-by-row}
use borrow.Author.Rules.{rules}
use Rattle.graphfile.proofs.refusal.refused_row.Goals as goal

pub returns-then-not-has : goal.returns-then-not-has
returns-then-not-has c = search (row-by-row, rules)

pub returns-then-not-is_within : goal.returns-then-not-is_within
returns-then-not-is_within c = search (row-by-row, rules)

pub returns : goal.returns
returns c = search (row-by-row, rules)

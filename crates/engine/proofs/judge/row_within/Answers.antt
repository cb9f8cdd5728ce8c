use borrow.Author.Rules.{rules}
use Rattle.engine.specs.Judged.{row_within}
use Rattle.sets.proofs.Ways.{conjunction}
use Rattle.engine.proofs.judge.row_within.Goals as goal

pub returns-then-not-is_within : goal.returns-then-not-is_within
returns-then-not-is_within c = unfold row_within in search (conjunction, rules)

pub returns-then-has : goal.returns-then-has
returns-then-has c = unfold row_within in search (conjunction, rules)

pub returns : goal.returns
returns c = unfold row_within in search (conjunction, rules)

use borrow.Author.Rules.{rules}
use Rattle.sets.proofs.Ways.{every-turn}
use Rattle.engine.specs.Judged.{rows_within}
use Rattle.engine.proofs.Judging.{row_read}
use Rattle.engine.proofs.judge.rows_within.Goals as goal

pub returns-then-not-row_within : goal.returns-then-not-row_within
unfolding rows_within
returns-then-not-row_within c = search (every-turn, row_read, rules)

pub returns : goal.returns
unfolding rows_within
returns c = search (every-turn, row_read, rules)

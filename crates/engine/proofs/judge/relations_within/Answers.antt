use borrow.Author.Rules.{rules}
use Rattle.sets.proofs.Ways.{every-turn}
use Rattle.engine.specs.Judged.{relations_within}
use Rattle.engine.proofs.judge.relations_within.Goals as goal

pub returns-then-not-rows_within : goal.returns-then-not-rows_within
unfolding relations_within
returns-then-not-rows_within c = search (every-turn, rules)

pub returns : goal.returns
unfolding relations_within
returns c = search (every-turn, rules)

use borrow.Author.Rules.{rules}
use Rattle.sets.proofs.Ways.{choice}
use Rattle.engine.specs.Judged.{found}
use Rattle.engine.proofs.Judging.{found-by}
use Rattle.plain.specs.Graphs.{plain_judged_for}
use Rattle.plain.proofs.judge.judge_for.Goals as goal

pub returns-then-is_above : goal.returns-then-is_above
returns-then-is_above c = unfold plain_judged_for found in search (choice, rules)

pub returns : goal.returns
unfolding plain_judged_for
returns c = search (found-by, choice, rules)

use borrow.Author.Rules.{rules}
use Rattle.engine.specs.Judged.{judged_for}
use Rattle.engine.proofs.Judging.{found-by}
use Rattle.engine.proofs.judge.judge_for.Goals as goal

pub returns : goal.returns
returns c = unfold judged_for in search (found-by, rules)

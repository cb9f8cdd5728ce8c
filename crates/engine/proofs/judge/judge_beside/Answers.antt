use borrow.Author.Rules.{rules}
use Rattle.engine.specs.Judged.{judged_with}
use Rattle.engine.proofs.Judging.{found-by}
use Rattle.engine.proofs.judge.judge_beside.Goals as goal

pub returns : goal.returns
returns c = unfold judged_with in search (found-by, rules)

use borrow.Author.Rules.{rules}
use Rattle.engine.specs.Judged.{judged_beside}
use Rattle.engine.proofs.Judging.{found-by}
use Rattle.engine.proofs.judge.judge_marking.Goals as goal

pub returns : goal.returns
returns c = unfold judged_beside in search (found-by, rules)

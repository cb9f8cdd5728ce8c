use borrow.Author.Rules.{rules}
use Rattle.calllog.proofs.Given.{judging}
use Rattle.calllog.proofs.judge.judge_log.Goals as goal

pub returns-then-is_done : goal.returns-then-is_done
returns-then-is_done c = search (judging, rules)

pub returns : goal.returns
returns c = search (judging, rules)

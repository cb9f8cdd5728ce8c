use borrow.Author.Rules.{rules}
use Rattle.calllog.proofs.Given.{judging}
use Rattle.calllog.proofs.Accepted.{entries-there}
use Rattle.calllog.proofs.judge.judge.Goals as goal

pub returns-then-not-is_done : goal.returns-then-not-is_done
returns-then-not-is_done c = search (judging, rules)

pub invariant_of-judge_contents : goal.invariant_of-judge_contents
invariant_of-judge_contents c = record { whole = search (entries-there, rules) }

pub returns : goal.returns
returns c = search (judging, rules)

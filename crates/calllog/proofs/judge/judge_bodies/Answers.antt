use borrow.Author.Rules.{rules}
use Rattle.calllog.proofs.Verdicts.{bodies}
use Rattle.calllog.proofs.judge.judge_bodies.Goals as goal

pub returns-then-bytes-end : goal.returns-then-bytes-end
returns-then-bytes-end c = search (bodies, rules)

pub returns-then-end-bytes : goal.returns-then-end-bytes
returns-then-end-bytes c = search (bodies, rules)

pub returns-then-not-all_below : goal.returns-then-not-all_below
returns-then-not-all_below c = search (bodies, rules)

pub returns : goal.returns
returns c = search (bodies, rules)

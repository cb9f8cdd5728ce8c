use borrow.Author.Rules.{rules}
use Rattle.graphfile.proofs.Asking.{front-head, front-entries, front-end}
use Rattle.graphfile.proofs.refusal.judge_before_rows.Goals as goal

pub returns-then-not-is_done : goal.returns-then-not-is_done
returns-then-not-is_done c = search (front-head, rules)

pub returns-then-not-is_done-2 : goal.returns-then-not-is_done-2
returns-then-not-is_done-2 c = search (front-entries, rules)

pub returns : goal.returns
returns c = search (front-end, rules)

use borrow.Author.Rules.{rules}
use Rattle.calllog.proofs.Finding.{asking}
use Rattle.calllog.proofs.trace.ask.Goals as goal

pub overflow_add-result : goal.overflow_add-result
overflow_add-result c = search (asking, rules)

pub returns-then-is_done : goal.returns-then-is_done
returns-then-is_done c = search (asking, rules)

pub returns : goal.returns
returns c = search (asking, rules)

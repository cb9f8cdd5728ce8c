use borrow.Author.Rules.{rules}
use Rattle.calllog.proofs.Finding.{finding}
use Rattle.calllog.proofs.trace.find_trace.Goals as goal

pub returns-then-not-is_done : goal.returns-then-not-is_done
returns-then-not-is_done c = search (finding, rules)

pub returns-then-judged-k : goal.returns-then-judged-k
returns-then-judged-k c = search (finding, rules)

pub returns : goal.returns
returns c = search (finding, rules)

use borrow.Author.Rules.{rules}
use Rattle.calllog.proofs.Given.{parts}
use Rattle.calllog.proofs.trace.trace_part.Goals as goal

pub returns-then-traces-k : goal.returns-then-traces-k
returns-then-traces-k c = search (parts, rules)

pub returns : goal.returns
returns c = search (parts, rules)

use Rattle.calllog.proofs.Given.{parts}
use borrow.Author.Rules.{rules}
use Rattle.calllog.proofs.trace.entry_part.Goals as goal

pub returns-then-bytes-bodies : goal.returns-then-bytes-bodies
returns-then-bytes-bodies c = search (parts, rules)

pub returns-then-bytes-start : goal.returns-then-bytes-start
returns-then-bytes-start c = search (parts, rules)

pub returns : goal.returns
returns c = search (parts, rules)

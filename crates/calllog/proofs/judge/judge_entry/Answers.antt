use borrow.Author.Rules.{rules}
use Rattle.calllog.proofs.Verdicts.{entries}
use Rattle.calllog.proofs.judge.judge_entry.Goals as goal

pub returns-then-size-gt-LONGEST_TRACE : goal.returns-then-size-gt-LONGEST_TRACE
returns-then-size-gt-LONGEST_TRACE c = search (entries, rules)

pub returns-then-earlier-size : goal.returns-then-earlier-size
returns-then-earlier-size c = search (entries, rules)

pub returns-then-offset-earlier : goal.returns-then-offset-earlier
returns-then-offset-earlier c = search (entries, rules)

pub returns : goal.returns
returns c = search (entries, rules)

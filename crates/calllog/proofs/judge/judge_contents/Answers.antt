use Rattle.calllog.specs.Layout.{events_before}
use Rattle.calllog.proofs.Contents.{contents}
use borrow.Author.Rules.{rules}
use Rattle.calllog.proofs.judge.judge_contents.Goals as goal

pub loop-k-init : goal.loop-k-init
unfolding events_before
loop-k-init c = search (contents, rules)

pub returns-then-not-is_done : goal.returns-then-not-is_done
unfolding events_before
returns-then-not-is_done c = search (contents, rules)

pub loop-k-preserved : goal.loop-k-preserved
unfolding events_before
loop-k-preserved c = search (contents, rules)

pub returns : goal.returns
unfolding events_before
returns c = search (contents, rules)

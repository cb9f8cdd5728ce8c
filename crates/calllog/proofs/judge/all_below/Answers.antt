use borrow.Author.Rules.{rules}
use Rattle.calllog.proofs.Scans.{scanning}
use Rattle.calllog.proofs.judge.all_below.Goals as goal

pub loop-i-init : goal.loop-i-init
loop-i-init c = search (scanning, rules)

pub loop-i-preserved : goal.loop-i-preserved
loop-i-preserved c = search (scanning, rules)

pub returns : goal.returns
returns c = search (scanning, rules)

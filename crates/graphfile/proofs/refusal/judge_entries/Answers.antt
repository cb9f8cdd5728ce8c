use Rattle.sets.proofs.Order.{turns}
use borrow.Author.Rules.{rules}
use Rattle.graphfile.proofs.refusal.judge_entries.Goals as goal

pub loop-r-init : goal.loop-r-init
loop-r-init c = search (turns, rules)

pub returns-then-not-is_done : goal.returns-then-not-is_done
returns-then-not-is_done c = search (turns, rules)

pub loop-r-preserved : goal.loop-r-preserved
loop-r-preserved c = search (turns, rules)

use borrow.Author.Rules.{rules}
use Rattle.sets.proofs.Loops.{gathering}
use Rattle.engine.proofs.enabled.free.Goals as goal

pub loop-i-init : goal.loop-i-init
loop-i-init c = search (gathering, rules)

pub loop-i-preserved : goal.loop-i-preserved
loop-i-preserved c = search (gathering, rules)

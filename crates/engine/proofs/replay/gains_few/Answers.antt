use borrow.Author.Rules.{rules}
use Rattle.engine.proofs.Narrow.{gained-none, gained-more, gained-end}
use Rattle.engine.proofs.replay.gains_few.Goals as goal

pub loop-i-init : goal.loop-i-init
loop-i-init c = (search rules, search (gained-none, rules))

pub loop-i-preserved : goal.loop-i-preserved
loop-i-preserved c = (search rules, search (gained-more, rules))

pub returns : goal.returns
returns c = search (gained-end, rules)

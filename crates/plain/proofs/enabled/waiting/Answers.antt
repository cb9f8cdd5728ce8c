use borrow.Author.Rules.{rules}
use Rattle.sets.specs.Tests.{◌or◌}
use Rattle.sets.proofs.Tests.{or-false}
use Rattle.plain.proofs.Stepping.{or-more, targets-begin, targets_next}
use Rattle.plain.proofs.Enabling.{keeps, waiting-end}
use Rattle.plain.proofs.enabled.waiting.Goals as goal

pub loop-pair-init : goal.loop-pair-init
loop-pair-init c = search (targets-begin ◌or◌ or-false or-more keeps, rules)

pub loop-pair-preserved : goal.loop-pair-preserved
loop-pair-preserved c = search (targets_next ◌or◌ or-false or-more keeps, rules)

pub returns : goal.returns
returns c = waiting-end _ _ _ _ (search rules) (search rules) c.loop-pair.invariant.1

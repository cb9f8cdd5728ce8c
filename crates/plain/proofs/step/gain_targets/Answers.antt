use Rattle.sets.specs.Tests.{◌or◌}
use Rattle.sets.proofs.Tests.{or-false}
use Rattle.plain.proofs.Stepping.{or-more, leads, targets-begin, targets_next, targets-end}
use Rattle.plain.specs.Pairs.{is_among}
use borrow.Author.Rules.{rules}
use Rattle.plain.proofs.step.gain_targets.Goals as goal

pub loop-pair-init : goal.loop-pair-init
loop-pair-init c = search (targets-begin ◌or◌ or-false or-more leads, rules)

pub loop-pair-preserved : goal.loop-pair-preserved
loop-pair-preserved c = search (targets_next ◌or◌ or-false or-more leads, rules)

pub returns : goal.returns
returns c = unfold is_among in targets-end ◌or◌ or-false or-more leads _ _ _ _ _ (search rules) (search rules) c.loop-pair.invariant.1

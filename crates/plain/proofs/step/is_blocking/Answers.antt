use Rattle.sets.proofs.Ways.{conjunction}
use Rattle.plain.specs.Pairs.{blocks}
use Rattle.plain.proofs.PairLaws.{at_source, is-target, is-no-target, not-at-source}
use borrow.Author.Rules.{rules}
use Rattle.plain.proofs.step.is_blocking.Goals as goal

pub returns-then-target-a : goal.returns-then-target-a
returns-then-target-a c = unfold blocks in search (conjunction, is-no-target, c.if-target-a.true, rules)

pub returns-then-not-has : goal.returns-then-not-has
returns-then-not-has c = unfold blocks in search (conjunction, at_source, not-at-source, is-target, rules)

pub returns : goal.returns
returns c = unfold blocks in search (conjunction, at_source, not-at-source, is-target, rules)

use Rattle.sets.proofs.Ways.{conjunction}
use Rattle.plain.specs.Pairs.{pair_within}
use Rattle.plain.proofs.PairLaws.{at_source, at_target}
use borrow.Author.Rules.{rules}
use Rattle.plain.proofs.judge.pair_within.Goals as goal

pub returns-then-not-has : goal.returns-then-not-has
returns-then-not-has c = unfold pair_within in search (conjunction, at_source, at_target, rules)

pub returns : goal.returns
returns c = unfold pair_within in search (conjunction, at_source, at_target, rules)

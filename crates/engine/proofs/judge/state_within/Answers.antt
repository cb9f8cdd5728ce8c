use borrow.Author.Rules.{rules}
use Rattle.engine.specs.Judged.{state_within}
use Rattle.sets.proofs.Ways.{conjunction}
use Rattle.engine.proofs.judge.state_within.Goals as goal

pub returns-then-not-is_within : goal.returns-then-not-is_within
returns-then-not-is_within c = unfold state_within in search (conjunction, rules)

pub returns-then-not-is_within-2 : goal.returns-then-not-is_within-2
returns-then-not-is_within-2 c = unfold state_within in search (conjunction, rules)

pub returns : goal.returns
returns c = unfold state_within in search (conjunction, rules)

use borrow.Author.Rules.{rules}
use Rattle.sets.proofs.Ways.{above, not-above, or_left, or-goes}
use Rattle.engine.proofs.judge.any_above.Goals as goal

pub returns-then-activities-gt-LIMIT : goal.returns-then-activities-gt-LIMIT
returns-then-activities-gt-LIMIT c = search (above, or_left, rules)

pub returns : goal.returns
returns c = search (not-above, or-goes, rules)

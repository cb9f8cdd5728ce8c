use borrow.Author.Rules.{rules}
use Rattle.sets.proofs.Members.{those-mem}
use Rattle.tally.proofs.Turns.{all_held, low_held}
use Rattle.tally.proofs.form.in_form.Goals as goal

pub returns-then-wide : goal.returns-then-wide
returns-then-wide c = all_held _ _ (those-mem _ (search rules)) c.if-wide.true

pub returns : goal.returns
returns c = low_held _ _ _ _ c.if-wide.false c.below.ensures c.intersection.ensures

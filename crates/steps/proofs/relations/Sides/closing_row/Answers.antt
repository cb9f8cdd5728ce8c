use mathlib.Core.Path.{refl}
use Rattle.sets.specs.Tests.{◌and◌}
use Rattle.sets.proofs.MadeSets.{joined, less, is-those, is_row, unless-true, unless-false}
use Rattle.steps.specs.Rowwise.{closing}
use Rattle.steps.proofs.relations.Sides.closing_row.Goals as goal

pub returns-then-itself : goal.returns-then-itself
unfolding closing
returns-then-itself c = unless-true _ _ refl _ c.if-itself.true

pub returns : goal.returns
unfolding closing
returns c = let after = joined ◌and◌ _ _ _ _ _ (λ b l. refl) (is_row _ _ _ c.row.ensures)
    c.intersection-after.ensures in
    unless-false _ _ refl _ _ (less _ _ _ _ _ (is-those _ _ after) (is_row _ _ _ c.row-2.ensures) c.difference.ensures)
    c.if-itself.false

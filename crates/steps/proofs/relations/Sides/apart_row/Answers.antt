use Rattle.sets.specs.Tests.{◌or◌}
use Rattle.sets.proofs.MadeSets.{joined, less, is-those, is_row}
use Rattle.steps.specs.Rowwise.{apart}
use Rattle.steps.proofs.relations.Sides.apart_row.Goals as goal

pub returns : goal.returns
unfolding apart
returns c = let together = joined ◌or◌ _ _ _ _ _ (is_row _ _ _ c.row-before.ensures)
    (is_row _ _ _ c.row.ensures) c.union-together.ensures in
    less _ _ _ _ _ (is-those _ _ c.others.ensures) (is-those _ _ together) c.difference.ensures

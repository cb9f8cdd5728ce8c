use Rattle.sets.proofs.MadeSets.{less, is-those, is_row}
use Rattle.steps.specs.Rowwise.{unbroken}
use Rattle.steps.proofs.relations.unbroken_row.Goals as goal

pub returns : goal.returns
unfolding unbroken
returns c = less _ _ _ _ _ (is-those _ _ c.others.ensures) (is_row _ _ _ c.row.ensures) c.difference.ensures

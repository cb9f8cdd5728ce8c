use Rattle.sets.specs.Tests.{◌or◌}
use Rattle.sets.proofs.MadeSets.{joined, is_row}
use Rattle.steps.specs.Rowwise.{in_either}
use Rattle.steps.proofs.relations.united_row.Goals as goal

pub returns : goal.returns
unfolding in_either
returns c = joined ◌or◌ _ _ _ _ _ (is_row _ _ _ c.row.ensures) (is_row _ _ _ c.row-2.ensures) c.union.ensures

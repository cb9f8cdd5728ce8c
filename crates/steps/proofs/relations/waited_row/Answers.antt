use mathlib.Core.Path.{refl}
use Rattle.sets.specs.Tests.{◌and◌, ◌or◌}
use Rattle.sets.proofs.MadeSets.{joined, is-those, is_row}
use Rattle.steps.specs.Rowwise.{waited}
use Rattle.steps.proofs.relations.waited_row.Goals as goal

pub returns : goal.returns
unfolding waited
returns c = let sources = joined ◌or◌ _ _ _ _ _ (is_row _ _ _ c.row.ensures)
    (is-those _ _ c.waited_for.ensures) c.union-sources.ensures in
    joined ◌and◌ _ _ _ _ _ (λ b l. refl) (is-those _ _ sources) c.intersection.ensures

use mathlib.Core.Path.{refl}
use Rattle.sets.proofs.MadeSets.{less, is_row}
use Rattle.steps.specs.Rowwise.{absent}
use Rattle.steps.proofs.relations.absent_row.Goals as goal

pub returns : goal.returns
unfolding absent
returns c = less _ _ _ _ _ (λ b l. refl) (is_row _ _ _ c.row.ensures) c.difference.ensures

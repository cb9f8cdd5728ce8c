use mathlib.Core.Path.{refl}
use Rattle.sets.proofs.MadeSets.{less, is-those}
use Rattle.steps.proofs.relations.others.Goals as goal

pub returns : goal.returns
returns c = less _ _ _ _ _ (λ b l. refl) (is-those _ _ c.one.ensures) c.difference.ensures

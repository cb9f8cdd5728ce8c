use mathlib.Core.Path.{refl}
use Rattle.sets.proofs.MadeSets.{where-true, where-false}
use Rattle.sets.proofs.set.Set.one_if.Goals as goal

pub returns-then-test : goal.returns-then-test
returns-then-test c = where-true _ _ refl _ _ c.one.ensures c.if-test.true

pub returns-else-test : goal.returns-else-test
returns-else-test c = where-false _ _ refl _ c.if-test.false

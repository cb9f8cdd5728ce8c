use mathlib.Core.Path.{sym}
use borrow.Author.Rules.{rules}
use Rattle.sets.proofs.Members.{those-mem}
use Rattle.sets.proofs.MadeSets.{unless-true, unless-false}
use Rattle.miner.proofs.conditions.at_first.Goals as goal

pub returns-then-has : goal.returns-then-has
returns-then-has c = unless-true _ _ c.has.ensures _ c.if-has.true

pub returns : goal.returns
returns c = unless-false _ _ c.has.ensures _ _ (sym (those-mem _ (search rules))) c.if-has.false

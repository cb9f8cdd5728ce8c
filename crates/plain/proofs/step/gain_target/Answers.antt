use Rattle.sets.specs.Tests.{◌or◌}
use Rattle.sets.proofs.Tests.{or-false}
use Rattle.plain.proofs.Stepping.{or-more, one-not, one-does}
use borrow.Author.Rules.{rules}
use Rattle.plain.proofs.step.gain_target.Goals as goal

pub returns-then-source-a : goal.returns-then-source-a
returns-then-source-a c = one-not ◌or◌ or-false or-more _ _ _ _ (search rules) c.source.ensures c.if-source-a.true

pub returns : goal.returns
returns c = let at = c in one-does ◌or◌ or-false or-more _ _ _ _ _ _ _ at.source.ensures
    at.if-source-a.false c.target.ensures c.one.ensures c.union.ensures

use Rattle.plain.proofs.Stepping.{but, but-none, but-more, one-not, one-does}
use borrow.Author.Rules.{rules}
use Rattle.plain.proofs.step.lose_target.Goals as goal

pub returns-then-source-a : goal.returns-then-source-a
returns-then-source-a c = one-not but but-none but-more _ _ _ _ (search rules) c.source.ensures c.if-source-a.true

pub returns : goal.returns
returns c = let at = c in one-does but but-none but-more _ _ _ _ _ _ _ at.source.ensures
    at.if-source-a.false c.target.ensures c.one.ensures c.difference.ensures

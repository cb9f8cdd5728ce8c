use borrow.Author.Rules.{rules}
use Rattle.engine.proofs.Stepping.{changed-by}
use Rattle.engine.proofs.step.changed.Goals as goal

pub returns : goal.returns
returns c = let a = c.args in search (changed-by a.s a.lost a.gained, rules)

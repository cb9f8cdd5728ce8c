use borrow.Author.Rules.{rules}
use Rattle.sets.proofs.Loops.{scattering}
use Rattle.sets.proofs.rows.turned.Goals as goal

pub loop-x-init : goal.loop-x-init
loop-x-init c = search (scattering, rules)

pub loop-x-preserved : goal.loop-x-preserved
loop-x-preserved c = search (scattering, rules)

pub returns : goal.returns
returns c = search (scattering, rules)

use borrow.Author.Rules.{rules}
use Rattle.tally.proofs.Loops.{homeward_to-start, homeward_to-turn, homeward_to-end}
use Rattle.tally.proofs.passes.backward.Goals as goal

pub loop-e-init : goal.loop-e-init
loop-e-init g c = homeward_to-start _ _ _ _ (search rules)

pub loop-e-preserved : goal.loop-e-preserved
loop-e-preserved g c = homeward_to-turn c.loop-e.invariant _ _ _ _ _ _ c.in-Some.ensures.steps c.note_rest.ensures c.one-next.ensures c.union.ensures c.in_form-after.ensures

pub returns : goal.returns
returns g c = homeward_to-end c.loop-e.invariant (search rules)

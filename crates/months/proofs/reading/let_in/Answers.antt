use borrow.Author.Rules.{rules}
use Rattle.months.proofs.FromTally.{gather-start, gather-turn, gather-end, pair-those}
use Rattle.months.proofs.reading.let_in.Goals as goal

pub loop-s-init : goal.loop-s-init
loop-s-init c = gather-start _ _

pub loop-s-preserved : goal.loop-s-preserved
loop-s-preserved c = gather-turn _ _ _ _ _ _ _ _ c.loop-s.invariant c.in-Some.ensures.steps
    (pair-those _ _ _ _ (c.between.ensures.value, c.between.ensures.result_value)) c.union-out.ensures

pub returns : goal.returns
returns c = gather-end _ _ _ _ _ c.loop-s.invariant c.in-None.ensures.steps.0 (search rules)

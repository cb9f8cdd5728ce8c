use mathlib.Core.Path.{◌∙◌}
use borrow.Author.Rules.{rules}
use Rattle.sets.proofs.Loops.{filling, fill-turn}
use Rattle.sets.proofs.MadeSets.{is_row}
use Rattle.steps.proofs.Reduction.{judging-from, judging-goes, judging-stays, narrow-cut, source-fits, reducing}
use Rattle.steps.proofs.reduce.reduced_in.Goals as goal
use Rattle.steps.proofs.reduce.reduced_in.Goals.{then-this-ne0, else-this-ne0}

pub source-init : goal.source-init
source-init g c = search (filling, rules)

pub target-init : goal.target-init
target-init g c =
    elim c.if-this-ne0.branch [
      | then-this-ne0 w ↦ judging-from _ _ _ _ (is_row _ _ _ (w.from-is ∙ c.row-row.ensures)) c.members-middles.ensures
      | else-this-ne0 w ↦
          judging-from _ _ _ _
          (narrow-cut _ _ _ _ _ _
          (source-fits _ _ _ _ _ _ _ c.requires (search rules) c.source.invariant.part c.in-Some.ensures.steps)
          (search rules) c.row-row.ensures w.below.ensures (w.from-is ∙ w.intersection-from.ensures))
          c.members-middles.ensures
    ]

pub middle-init : goal.middle-init
middle-init g c = search reducing

pub target-smaller-then-has : goal.target-smaller-then-has
target-smaller-then-has g c = search reducing

pub target-preserved-then-has : goal.target-preserved-then-has
target-preserved-then-has g c =
    judging-goes _ _ _ _ _ c.middle.invariant.0 _ _ _ _ c.in-Some-next.ensures.steps c.row-joined.ensures c.difference-targets.ensures

pub middle-preserved : goal.middle-preserved
middle-preserved g c = (
  judging-goes _ _ _ _ _ c.middle.invariant.0 _ _ _ _ c.in-Some-next.ensures.steps c.row-joined.ensures c.difference-targets.ensures,
  search reducing,
)

pub target-smaller : goal.target-smaller
target-smaller g c = search reducing

pub target-preserved : goal.target-preserved
target-preserved g c =
    judging-stays _ _ _ _ _ c.middle.invariant.0 _ _ _ _ _ _ (search rules) (search rules) c.middle.invariant.1 c.one.ensures c.union-kept.ensures
    c.one-in-target.ensures c.difference-targets-in-target.ensures

pub source-preserved : goal.source-preserved
source-preserved g c = fill-turn _ c.source.invariant _ _ _ _ c.in-Some.ensures.steps (λ l. search reducing) c.put.ensures

pub returns : goal.returns
returns g c = search (filling, rules)

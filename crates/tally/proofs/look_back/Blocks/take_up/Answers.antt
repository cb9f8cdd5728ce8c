use mathlib.Core.Path.{◌∙◌}
use native.Mathlib.Omega.{arith}
use Rattle.tally.proofs.LookBack.{take-start, take_next, take-end, blocks-none}
use Rattle.tally.proofs.look_back.Blocks.take_up.Goals as goal

pub loop-j-init : goal.loop-j-init
loop-j-init c = c.requires ∙ take-start _

pub returns-then-trace-j : goal.returns-then-trace-j
returns-then-trace-j c = c.loop-j.invariant ∙ take-end _ _ (λ i li far. omega (arith, c.if-trace-j.true, far)) ∙ blocks-none

pub loop-j-preserved : goal.loop-j-preserved
loop-j-preserved c = take_next _ _ _ _ c.loop-j.invariant c.put.ensures

pub returns : goal.returns
returns c = c.loop-j.invariant ∙ take-end _ _ (λ i li far. absurd (omega (arith, c.loop-j-test.false, li, far))) ∙ blocks-none

use Rattle.sets.specs.Rows.{Relation}
use Rattle.sets.proofs.Loops.{Filled}
use Rattle.steps.specs.Rules.{IsRuleOf}
use Rattle.steps.proofs.rowwise.rows_at.Given as goal

abbrev pub invariant-loop-a : goal.invariant-loop-a
invariant-loop-a g l = (r : Relation) → IsRuleOf (λ a s. g.F.Fn.post l.rule (a, tt) s) r → Filled l.initial.a-iterator.rest r l.out l.a-iterator.rest

use mathlib.Core.Path.{refl, ◌∙◌}
use borrow.Author.Rules.{rules}
use Rattle.months.proofs.Initial.{initial-start, initial-turn, initial-end}
use Rattle.months.proofs.Gaining.{put-length}
use Rattle.months.proofs.filling.put_initial.Goals as goal

pub loop-w-init : goal.loop-w-init
loop-w-init c = (search rules, c.requires, refl, initial-start _ _ _)

pub loop-w-preserved : goal.loop-w-preserved
loop-w-preserved c = let v = c.loop-w.invariant in (
  search rules,
  v.1,
  put-length _ _ _ _ c.put_set.ensures ∙ v.2,
  initial-turn _ _ _ _ _ _ _ c.loop-w-test.true v.1 v.3 c.initial.ensures c.put_set.ensures,
)

pub returns : goal.returns
returns c = let v = c.loop-w.invariant in initial-end _ _ _ _ _ c.loop-w-test.false v.0 v.3

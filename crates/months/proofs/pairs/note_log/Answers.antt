use mathlib.Core.Path.{refl}
use borrow.Author.Rules.{rules}
use Rattle.months.proofs.Gaining.{traces-start, traces-turn}
use Rattle.months.proofs.pairs.note_log.Goals as goal

pub loop-k-init : goal.loop-k-init
loop-k-init c = (search rules, refl, traces-start _ _)

pub loop-k-preserved : goal.loop-k-preserved
loop-k-preserved c = let v = c.loop-k.invariant in
    (search rules, search rules, traces-turn _ _ _ _ _ _ c.trace_at-trace.ensures v.2 c.note_trace.ensures)

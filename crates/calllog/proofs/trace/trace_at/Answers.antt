use native.Mathlib.Omega.{arith}
use borrow.Author.Rules.{rules}
use Rattle.calllog.proofs.Traces.{part-within, part_cut}
use Rattle.calllog.proofs.trace.trace_at.Goals as goal

pub overflow_add-result : goal.overflow_add-result
overflow_add-result c = omega (arith, part-within _ _ _ c.trace_part-p.ensures)

pub slice_bounds-result-end : goal.slice_bounds-result-end
slice_bounds-result-end c = search (part-within, part_cut, rules)

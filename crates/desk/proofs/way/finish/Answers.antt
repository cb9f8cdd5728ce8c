use mathlib.Core.Path.{◌∙◌}
use Rattle.desk.proofs.Calling.{too-short, no-call, a-call, held-long, call-closed, call-open, call-marking}
use Rattle.desk.proofs.WayOut.{finished-formed, found_at}
use Rattle.desk.proofs.way.finish.Goals as goal

pub returns-in_default : goal.returns-in_default
returns-in_default c = finished-formed _ _ c.wide_for-wide.ensures _ _ _ (c.refused.ensures ∙ too-short _ _ _ _ c.in_default.ensures)

pub returns-in_default-call_at : goal.returns-in_default-call_at
returns-in_default-call_at c =
    finished-formed _ _ c.wide_for-wide.ensures _ _ _
    (c.refused-in_default-call_at.ensures ∙ no-call _ _ _ _ _ _ (held-long _ _ c.in-Some.held.whole _ _ c.in-Some.ensures) (call-closed _ _ c.in-Some.held.whole _ _ c.in-Some.ensures _ _ c.call_at.ensures c.in_default-call_at.is))

pub returns : goal.returns
returns c =
    finished-formed _ _ c.wide_for-wide.ensures _ _ _
    (a-call _ _ _ _ _ _ (held-long _ _ c.in-Some.held.whole _ _ c.in-Some.ensures) _ (call-open _ _ c.in-Some.held.whole _ _ c.in-Some.ensures _ _ c.call_at.ensures _ c.in-Some-call_at.is)
    (found_at _ _ c.wide_for-wide.ensures _ _ _ _ (call-marking _ _ c.in-Some.held.whole _ _ c.in-Some.ensures _ _ c.call_at.ensures _ c.in-Some-call_at.is) c.way_out.ensures))

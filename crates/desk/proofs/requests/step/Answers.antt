use mathlib.Core.Bool.{false}
use mathlib.Core.Path.{refl}
use Rattle.engine.specs.Relations.{graph_of}
use Rattle.desk.specs.Desk.{table_stepped}
use Rattle.desk.proofs.Calling.{too-short, held-long, call-none, call-marking, call-there, call-asked}
use Rattle.desk.proofs.Serving.{table_same, table-new, asked-at, step-formed, stepped-formed, stepped-to}
use Rattle.desk.proofs.requests.step.Goals as goal

pub returns-in_default-clause-value : goal.returns-in_default-clause-value
returns-in_default-clause-value c = step-formed _ _ c.wide_for-wide.ensures _ _ _ _
    (too-short _ _ _ _ c.in_default.ensures)

pub returns-in_default-clause-table_after : goal.returns-in_default-clause-table_after
returns-in_default-clause-table_after c = unfold table_stepped in table_same _ _ false (returns-in_default-clause-value c) refl _ _ refl

pub returns-in_default-call_at-clause-value : goal.returns-in_default-call_at-clause-value
returns-in_default-call_at-clause-value c = step-formed _ _ c.wide_for-wide.ensures _ _ _ _
    (call-none _ _ c.in-Some.held.whole _ _ c.in-Some.ensures _ _ c.call_at.ensures _ c.in_default-call_at.is)

pub returns-in_default-call_at-clause-table_after : goal.returns-in_default-call_at-clause-table_after
returns-in_default-call_at-clause-table_after c = unfold table_stepped in table_same _ _ false (returns-in_default-call_at-clause-value c) refl _ _ refl

pub returns-then-not-is_done-clause-value : goal.returns-then-not-is_done-clause-value
returns-then-not-is_done-clause-value c = step-formed _ _ c.wide_for-wide.ensures _ _ _ _
    (call-asked _ _ c.in-Some.held.whole _ _ c.in-Some.ensures _ _ c.call_at.ensures _ c.in-Some-call_at.is _ _
    (asked-at _ _ (call-marking _ _ c.in-Some.held.whole _ _ c.in-Some.ensures _ _ c.call_at.ensures _ c.in-Some-call_at.is) _ _ _ c.ask_judged-answer.ensures))

pub returns-then-not-is_done-clause-table_after : goal.returns-then-not-is_done-clause-table_after
returns-then-not-is_done-clause-table_after c = unfold table_stepped in table_same _ _ _ (returns-then-not-is_done-clause-value c) c.is_done.ensures _ _ c.if-not-is_done.true

pub put_marking-requires : goal.put_marking-requires
put_marking-requires c = (held-long _ _ c.in-Some.held.whole _ _ c.in-Some.ensures, call-there _ _ c.in-Some.held.whole _ _ c.in-Some.ensures _ _ c.call_at.ensures _ c.in-Some-call_at.is)

pub returns-clause-value : goal.returns-clause-value
returns-clause-value c = step-formed _ _ c.wide_for-wide.ensures _ _ _ _
    (call-asked _ _ c.in-Some.held.whole _ _ c.in-Some.ensures _ _ c.call_at.ensures _ c.in-Some-call_at.is _ _
    (asked-at _ _ (call-marking _ _ c.in-Some.held.whole _ _ c.in-Some.ensures _ _ c.call_at.ensures _ c.in-Some-call_at.is) _ _ _ c.ask_judged-answer.ensures))

pub returns-clause-table_after : goal.returns-clause-table_after
returns-clause-table_after c =
    unfold table_stepped in table-new _ _ _ (returns-clause-value c) c.is_done.ensures _ _ _ c.if-not-is_done.false
    (stepped-formed (graph_of c.args.head c.args.relations.now) _ c.wide_for-wide.ensures _ _ _ _ (stepped-to _ _ _ _ _ _ _ _ _ (call-marking _ _ c.in-Some.held.whole _ _ c.in-Some.ensures _ _ c.call_at.ensures _ c.in-Some-call_at.is) c.stepped-after.ensures c.put_marking.ensures))

use mathlib.Core.Bool.{false}
use mathlib.Core.Path.{refl}
use Rattle.desk.specs.Desk.{step_answer_on, table_stepped_on}
use Rattle.desk.proofs.Calling.{too-short, held-long, call-none, call-marking, call-there, call-asked}
use Rattle.desk.proofs.Serving.{table_same, table-new, asked-on, stepped-to}
use Rattle.desk.proofs.requests.step_on.Goals as goal

pub returns-in_default-clause-value : goal.returns-in_default-clause-value
returns-in_default-clause-value c = unfold step_answer_on in too-short _ _ _ _ c.in_default.ensures

pub returns-in_default-clause-table_after : goal.returns-in_default-clause-table_after
returns-in_default-clause-table_after c = unfold table_stepped_on in table_same _ _ false (returns-in_default-clause-value c) refl _ _ refl

pub returns-in_default-call_at-clause-value : goal.returns-in_default-call_at-clause-value
returns-in_default-call_at-clause-value c = unfold step_answer_on in call-none _ _ c.in-Some.held.whole _ _ c.in-Some.ensures _ _ c.call_at.ensures _ c.in_default-call_at.is

pub returns-in_default-call_at-clause-table_after : goal.returns-in_default-call_at-clause-table_after
returns-in_default-call_at-clause-table_after c = unfold table_stepped_on in table_same _ _ false (returns-in_default-call_at-clause-value c) refl _ _ refl

pub returns-then-not-is_done-clause-value : goal.returns-then-not-is_done-clause-value
returns-then-not-is_done-clause-value c = unfold step_answer_on in call-asked _ _ c.in-Some.held.whole _ _ c.in-Some.ensures _ _ c.call_at.ensures _ c.in-Some-call_at.is _ _
    (asked-on _ _ (call-marking _ _ c.in-Some.held.whole _ _ c.in-Some.ensures _ _ c.call_at.ensures _ c.in-Some-call_at.is) _ _ _ _ c.ask_on-answer.ensures)

pub returns-then-not-is_done-clause-table_after : goal.returns-then-not-is_done-clause-table_after
returns-then-not-is_done-clause-table_after c = unfold table_stepped_on in table_same _ _ _ (returns-then-not-is_done-clause-value c) c.is_done.ensures _ _ c.if-not-is_done.true

pub put_marking-requires : goal.put_marking-requires
put_marking-requires c = (held-long _ _ c.in-Some.held.whole _ _ c.in-Some.ensures, call-there _ _ c.in-Some.held.whole _ _ c.in-Some.ensures _ _ c.call_at.ensures _ c.in-Some-call_at.is)

pub returns-clause-value : goal.returns-clause-value
returns-clause-value c = unfold step_answer_on in call-asked _ _ c.in-Some.held.whole _ _ c.in-Some.ensures _ _ c.call_at.ensures _ c.in-Some-call_at.is _ _
    (asked-on _ _ (call-marking _ _ c.in-Some.held.whole _ _ c.in-Some.ensures _ _ c.call_at.ensures _ c.in-Some-call_at.is) _ _ _ _ c.ask_on-answer.ensures)

pub returns-clause-table_after : goal.returns-clause-table_after
returns-clause-table_after c =
    unfold table_stepped_on in table-new _ _ _ (returns-clause-value c) c.is_done.ensures _ _ _ c.if-not-is_done.false
    (stepped-to _ _ _ _ _ _ _ _ _ (call-marking _ _ c.in-Some.held.whole _ _ c.in-Some.ensures _ _ c.call_at.ensures _ c.in-Some-call_at.is) c.stepped-after.ensures c.put_marking.ensures)

use mathlib.Core.Bool.{false}
use mathlib.Core.Path.{refl, ◌∙◌}
use Rattle.engine.specs.Relations.{graph_of}
use Rattle.desk.specs.Desk.{opened_of, table_opened}
use Rattle.desk.proofs.Calling.{too-short, held-long, open-refused, open-full, open-done, open-lowest, open-there}
use Rattle.desk.proofs.Serving.{table_same, table-new, opened-none, opened-at, open-formed, lowest-formed, opened-formed}
use Rattle.desk.proofs.requests.open.Goals as goal

pub returns-in_default-clause-value : goal.returns-in_default-clause-value
returns-in_default-clause-value c =
    unfold opened_of in c.refused.ensures ∙ opened-none _ _ false (open-formed _ _ c.wide_for-wide.ensures _ _ (too-short _ _ _ _ c.in_default.ensures)) refl _ refl

pub returns-in_default-clause-table_after : goal.returns-in_default-clause-table_after
returns-in_default-clause-table_after c =
    unfold table_opened in table_same _ _ false (open-formed _ _ c.wide_for-wide.ensures _ _ (too-short _ _ _ _ c.in_default.ensures)) refl _ _ refl

pub returns-then-not-is_done-clause-value : goal.returns-then-not-is_done-clause-value
returns-then-not-is_done-clause-value c =
    unfold opened_of in c.refused-then-not-is_done.ensures ∙ opened-none _ _ _ (open-formed _ _ c.wide_for-wide.ensures _ _ (open-refused _ _ c.in-Some.held.whole _ _ c.in-Some.ensures _ _ _ c.judge_for-answer.ensures c.is_done.ensures c.if-not-is_done.true)) c.is_done.ensures _ c.if-not-is_done.true

pub returns-then-not-is_done-clause-table_after : goal.returns-then-not-is_done-clause-table_after
returns-then-not-is_done-clause-table_after c =
    unfold table_opened in table_same _ _ _ (open-formed _ _ c.wide_for-wide.ensures _ _ (open-refused _ _ c.in-Some.held.whole _ _ c.in-Some.ensures _ _ _ c.judge_for-answer.ensures c.is_done.ensures c.if-not-is_done.true)) c.is_done.ensures _ _ c.if-not-is_done.true

pub returns-in_default-lowest_free-clause-value : goal.returns-in_default-lowest_free-clause-value
returns-in_default-lowest_free-clause-value c =
    unfold opened_of in c.refused-in_default-lowest_free.ensures ∙ opened-none _ _ false (open-formed _ _ c.wide_for-wide.ensures _ _ (open-full _ _ c.in-Some.held.whole _ _ c.in-Some.ensures _ _ _ c.judge_for-answer.ensures c.is_done.ensures c.if-not-is_done.false _ c.lowest_free.ensures c.in_default-lowest_free.is)) refl _ refl

pub returns-in_default-lowest_free-clause-table_after : goal.returns-in_default-lowest_free-clause-table_after
returns-in_default-lowest_free-clause-table_after c =
    unfold table_opened in table_same _ _ false (open-formed _ _ c.wide_for-wide.ensures _ _ (open-full _ _ c.in-Some.held.whole _ _ c.in-Some.ensures _ _ _ c.judge_for-answer.ensures c.is_done.ensures c.if-not-is_done.false _ c.lowest_free.ensures c.in_default-lowest_free.is)) refl _ _ refl

pub put_place-requires : goal.put_place-requires
put_place-requires c = (held-long _ _ c.in-Some.held.whole _ _ c.in-Some.ensures, open-there _ _ c.in-Some.held.whole _ _ c.in-Some.ensures _ _ _ c.judge_for-answer.ensures c.is_done.ensures c.if-not-is_done.false _ c.lowest_free.ensures _ c.in-Some-lowest_free.is)

pub returns-clause-value : goal.returns-clause-value
returns-clause-value c =
    unfold opened_of in opened-at _ _ _ (open-formed _ _ c.wide_for-wide.ensures _ _ (open-done _ _ c.in-Some.held.whole _ _ c.in-Some.ensures _ _ _ c.judge_for-answer.ensures c.is_done.ensures c.if-not-is_done.false _ c.lowest_free.ensures _ c.in-Some-lowest_free.is)) c.is_done.ensures _ _ c.if-not-is_done.false
    (lowest-formed (graph_of c.args.head c.args.relations.now) _ c.wide_for-wide.ensures _ _ (open-lowest _ _ c.in-Some.held.whole _ _ c.in-Some.ensures _ _ _ c.judge_for-answer.ensures c.is_done.ensures c.if-not-is_done.false _ c.lowest_free.ensures _ c.in-Some-lowest_free.is))

pub returns-clause-table_after : goal.returns-clause-table_after
returns-clause-table_after c =
    unfold table_opened in table-new _ _ _ (open-formed _ _ c.wide_for-wide.ensures _ _ (open-done _ _ c.in-Some.held.whole _ _ c.in-Some.ensures _ _ _ c.judge_for-answer.ensures c.is_done.ensures c.if-not-is_done.false _ c.lowest_free.ensures _ c.in-Some-lowest_free.is)) c.is_done.ensures _ _ _ c.if-not-is_done.false
    (opened-formed (graph_of c.args.head c.args.relations.now) _ c.wide_for-wide.ensures _ _ _ _ _ (open-lowest _ _ c.in-Some.held.whole _ _ c.in-Some.ensures _ _ _ c.judge_for-answer.ensures c.is_done.ensures c.if-not-is_done.false _ c.lowest_free.ensures _ c.in-Some-lowest_free.is) c.put_place.ensures)

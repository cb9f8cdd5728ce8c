use Rattle.months.proofs.Answers.{fill-refused, fill-few, fill-above, fill_done}
use Rattle.months.proofs.filling.fill.Goals as goal

pub returns-then-not-is_done-clause-value : goal.returns-then-not-is_done-clause-value
returns-then-not-is_done-clause-value c = (fill-refused _ _ _ c.judge_log-judged.ensures _ c.is_done.ensures c.if-not-is_done.true).0

pub returns-then-not-is_done-clause-tally_after : goal.returns-then-not-is_done-clause-tally_after
returns-then-not-is_done-clause-tally_after c = (fill-refused _ _ _ c.judge_log-judged.ensures _ c.is_done.ensures c.if-not-is_done.true).1

pub returns-then-tally-lt-LENGTH-clause-value : goal.returns-then-tally-lt-LENGTH-clause-value
returns-then-tally-lt-LENGTH-clause-value c = (fill-few _ _ _ c.judge_log-judged.ensures _ c.is_done.ensures c.if-not-is_done.false c.if-tally-lt-LENGTH.true).0

pub returns-then-tally-lt-LENGTH-clause-tally_after : goal.returns-then-tally-lt-LENGTH-clause-tally_after
returns-then-tally-lt-LENGTH-clause-tally_after c = (fill-few _ _ _ c.judge_log-judged.ensures _ c.is_done.ensures c.if-not-is_done.false c.if-tally-lt-LENGTH.true).1

pub returns-then-judged-gt-LIMIT-clause-value : goal.returns-then-judged-gt-LIMIT-clause-value
returns-then-judged-gt-LIMIT-clause-value c = (fill-above _ _ _ c.judge_log-judged.ensures _ c.is_done.ensures c.if-not-is_done.false c.if-tally-lt-LENGTH.false c.if-judged-gt-LIMIT.true).0

pub returns-then-judged-gt-LIMIT-clause-tally_after : goal.returns-then-judged-gt-LIMIT-clause-tally_after
returns-then-judged-gt-LIMIT-clause-tally_after c = (fill-above _ _ _ c.judge_log-judged.ensures _ c.is_done.ensures c.if-not-is_done.false c.if-tally-lt-LENGTH.false c.if-judged-gt-LIMIT.true).1

pub returns-clause-value : goal.returns-clause-value
returns-clause-value c = (fill_done _ _ _ c.judge_log-judged.ensures _ c.is_done.ensures c.if-not-is_done.false c.if-tally-lt-LENGTH.false _ c.if-judged-gt-LIMIT.false
    c.put_tally.ensures).0

pub returns-clause-tally_after : goal.returns-clause-tally_after
returns-clause-tally_after c = (fill_done _ _ _ c.judge_log-judged.ensures _ c.is_done.ensures c.if-not-is_done.false c.if-tally-lt-LENGTH.false _ c.if-judged-gt-LIMIT.false
    c.put_tally.ensures).1

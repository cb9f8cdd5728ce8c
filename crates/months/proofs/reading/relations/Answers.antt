use Rattle.months.proofs.Answers.{known-few, known-above, known-done}
use Rattle.months.proofs.reading.relations.Goals as goal

pub returns-then-tally-lt-LENGTH : goal.returns-then-tally-lt-LENGTH
returns-then-tally-lt-LENGTH c = known-few _ c.args.profile _ c.if-tally-lt-LENGTH.true c.refused.ensures

pub returns-then-activities-gt-LIMIT : goal.returns-then-activities-gt-LIMIT
returns-then-activities-gt-LIMIT c = known-above _ c.args.profile _ c.if-tally-lt-LENGTH.false c.if-activities-gt-LIMIT.true c.refused-then-activities-gt-LIMIT.ensures

pub returns : goal.returns
returns c = known-done _ c.args.profile _ _ _ c.if-tally-lt-LENGTH.false c.if-activities-gt-LIMIT.false c.set_at-events.ensures
    c.tables_in-tables.ensures c.after_eight.ensures

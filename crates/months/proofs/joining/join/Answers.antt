use mathlib.Core.Path.{refl, sym, ◌∙◌}
use lib.Seq.{length-take-le}
use Rattle.months.specs.Layout.{tally_length}
use Rattle.months.proofs.Answers.{join-few, join-few-other, join-above, join-done}
use Rattle.months.proofs.joining.join.Goals as goal

pub returns-then-tally-lt-LENGTH-clause-value : goal.returns-then-tally-lt-LENGTH-clause-value
returns-then-tally-lt-LENGTH-clause-value c = (join-few _ _ c.if-tally-lt-LENGTH.true).0

pub returns-then-tally-lt-LENGTH-clause-tally_after : goal.returns-then-tally-lt-LENGTH-clause-tally_after
returns-then-tally-lt-LENGTH-clause-tally_after c = (join-few _ _ c.if-tally-lt-LENGTH.true).1

pub returns-then-other-lt-LENGTH-clause-value : goal.returns-then-other-lt-LENGTH-clause-value
returns-then-other-lt-LENGTH-clause-value c = (join-few-other _ _ c.if-other-lt-LENGTH.true).0

pub returns-then-other-lt-LENGTH-clause-tally_after : goal.returns-then-other-lt-LENGTH-clause-tally_after
returns-then-other-lt-LENGTH-clause-tally_after c = (join-few-other _ _ c.if-other-lt-LENGTH.true).1

pub returns-then-activities-gt-LIMIT-clause-value : goal.returns-then-activities-gt-LIMIT-clause-value
returns-then-activities-gt-LIMIT-clause-value c = (join-above _ _ c.if-tally-lt-LENGTH.false c.if-other-lt-LENGTH.false _ c.max-activities.ensures c.if-activities-gt-LIMIT.true).0

pub returns-then-activities-gt-LIMIT-clause-tally_after : goal.returns-then-activities-gt-LIMIT-clause-tally_after
returns-then-activities-gt-LIMIT-clause-tally_after c = (join-above _ _ c.if-tally-lt-LENGTH.false c.if-other-lt-LENGTH.false _ c.max-activities.ensures c.if-activities-gt-LIMIT.true).1

pub join_bytes-requires : goal.join_bytes-requires
join_bytes-requires c =
    length-take-le tally_length _ c.if-tally-lt-LENGTH.false ∙ sym (length-take-le tally_length _ c.if-other-lt-LENGTH.false)

pub returns-clause-value : goal.returns-clause-value
returns-clause-value c = (join-done _ _ c.if-tally-lt-LENGTH.false c.if-other-lt-LENGTH.false _ c.max-activities.ensures _ _ c.if-activities-gt-LIMIT.false
    c.join_bytes.ensures refl).0

pub returns-clause-tally_after : goal.returns-clause-tally_after
returns-clause-tally_after c = (join-done _ _ c.if-tally-lt-LENGTH.false c.if-other-lt-LENGTH.false _ c.max-activities.ensures _ _ c.if-activities-gt-LIMIT.false
    c.join_bytes.ensures refl).1

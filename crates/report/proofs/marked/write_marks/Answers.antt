use borrow.Author.Rules.{rules}
use Rattle.report.proofs.MarkLaws.{writing-marks}
use Rattle.report.proofs.marked.write_marks.Goals as goal

pub returns-then-out-lt-LONGEST_MARKS-clause-value : goal.returns-then-out-lt-LONGEST_MARKS-clause-value
returns-then-out-lt-LONGEST_MARKS-clause-value c = search (writing-marks, rules)

pub returns-then-out-lt-LONGEST_MARKS-clause-out_after : goal.returns-then-out-lt-LONGEST_MARKS-clause-out_after
returns-then-out-lt-LONGEST_MARKS-clause-out_after c = search (writing-marks, rules)

pub put_refused-size-requires : goal.put_refused-size-requires
put_refused-size-requires c = search (writing-marks, rules)

pub returns-then-not-is_done-clause-value : goal.returns-then-not-is_done-clause-value
returns-then-not-is_done-clause-value c = search (writing-marks, rules)

pub returns-then-not-is_done-clause-out_after : goal.returns-then-not-is_done-clause-out_after
returns-then-not-is_done-clause-out_after c = search (writing-marks, rules)

pub put_marks-size-requires : goal.put_marks-size-requires
put_marks-size-requires c = search (writing-marks, rules)

pub returns-clause-value : goal.returns-clause-value
returns-clause-value c = search (writing-marks, rules)

pub returns-clause-out_after : goal.returns-clause-out_after
returns-clause-out_after c = search (writing-marks, rules)

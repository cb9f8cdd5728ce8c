use borrow.Author.Rules.{rules}
use Rattle.report.proofs.SummaryLaws.{summarizing}
use Rattle.report.proofs.summary.write_summary.Goals as goal

pub returns-then-not-is_done-clause-value : goal.returns-then-not-is_done-clause-value
returns-then-not-is_done-clause-value c = search (summarizing, rules)

pub returns-then-not-is_done-clause-out_after : goal.returns-then-not-is_done-clause-out_after
returns-then-not-is_done-clause-out_after c = search (summarizing, rules)

pub returns-then-out-most-clause-value : goal.returns-then-out-most-clause-value
returns-then-out-most-clause-value c = search (summarizing, rules)

pub returns-then-out-most-clause-out_after : goal.returns-then-out-most-clause-out_after
returns-then-out-most-clause-out_after c = search (summarizing, rules)

pub put_summary-requires : goal.put_summary-requires
put_summary-requires c = search (summarizing, rules)

pub returns-clause-value : goal.returns-clause-value
returns-clause-value c = search (summarizing, rules)

pub returns-clause-out_after : goal.returns-clause-out_after
returns-clause-out_after c = search (summarizing, rules)

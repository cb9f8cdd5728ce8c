use borrow.Author.Rules.{rules}
use Rattle.report.proofs.Choosing.{refusing}
use Rattle.report.proofs.choice.write_refused.Goals as goal

pub returns-then-out-lt-LONGEST_REFUSED-clause-value : goal.returns-then-out-lt-LONGEST_REFUSED-clause-value
returns-then-out-lt-LONGEST_REFUSED-clause-value c = search (refusing, rules)

pub returns-then-out-lt-LONGEST_REFUSED-clause-out_after : goal.returns-then-out-lt-LONGEST_REFUSED-clause-out_after
returns-then-out-lt-LONGEST_REFUSED-clause-out_after c = search (refusing, rules)

pub put_refused-requires : goal.put_refused-requires
put_refused-requires c = search (refusing, rules)

pub returns-clause-value : goal.returns-clause-value
returns-clause-value c = search (refusing, rules)

pub returns-clause-out_after : goal.returns-clause-out_after
returns-clause-out_after c = search (refusing, rules)

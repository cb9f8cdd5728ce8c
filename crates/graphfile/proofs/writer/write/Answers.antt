use borrow.Author.Rules.{rules}
use Rattle.graphfile.proofs.Writes.{write-refused, refused-keeps, write-passed, passed-after}
use Rattle.graphfile.proofs.writer.write.Goals as goal

pub returns-then-not-is_done-clause-value : goal.returns-then-not-is_done-clause-value
returns-then-not-is_done-clause-value c = search (write-refused, refused-keeps, rules)

pub returns-then-not-is_done-clause-out_after : goal.returns-then-not-is_done-clause-out_after
returns-then-not-is_done-clause-out_after c = search (write-refused, refused-keeps, rules)

pub returns-clause-value : goal.returns-clause-value
returns-clause-value c = search (write-passed, passed-after, rules)

pub returns-clause-out_after : goal.returns-clause-out_after
returns-clause-out_after c = search (write-passed, passed-after, rules)

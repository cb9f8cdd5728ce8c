use Rattle.plain.proofs.Putting.{small-answer, small-memory, done-answer, done-memory}
use borrow.Author.Rules.{rules}
use Rattle.plain.proofs.fill.fill.Goals as goal

pub returns-then-memory-pairs-clause-value : goal.returns-then-memory-pairs-clause-value
returns-then-memory-pairs-clause-value c = search (small-answer, small-memory, done-answer, done-memory, rules)

pub returns-then-memory-pairs-clause-memory_after : goal.returns-then-memory-pairs-clause-memory_after
returns-then-memory-pairs-clause-memory_after c = search (small-answer, small-memory, done-answer, done-memory, rules)

pub returns-clause-value : goal.returns-clause-value
returns-clause-value c = search (small-answer, small-memory, done-answer, done-memory, rules)

pub returns-clause-memory_after : goal.returns-clause-memory_after
returns-clause-memory_after c = search (small-answer, small-memory, done-answer, done-memory, rules)

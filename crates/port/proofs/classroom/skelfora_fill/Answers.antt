use Rattle.port.proofs.Handing.{filling}
use borrow.Author.Rules.{rules}
use Rattle.port.proofs.classroom.skelfora_fill.Goals as goal

pub returns-then-not-is_done-clause-value : goal.returns-then-not-is_done-clause-value
returns-then-not-is_done-clause-value c = search (filling, rules)

pub returns-then-not-is_done-clause-memory_after : goal.returns-then-not-is_done-clause-memory_after
returns-then-not-is_done-clause-memory_after c = search (filling, rules)

pub returns-clause-value : goal.returns-clause-value
returns-clause-value c = search (filling, rules)

pub returns-clause-memory_after : goal.returns-clause-memory_after
returns-clause-memory_after c = search (filling, rules)

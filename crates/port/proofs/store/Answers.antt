use Rattle.sets.proofs.Ways.{choice}
use Rattle.port.specs.Port.{stored_of}
use borrow.Author.Rules.{rules}
use Rattle.port.proofs.store.Goals as goal

pub returns-then-not-is_done-clause-marking_after : goal.returns-then-not-is_done-clause-marking_after
returns-then-not-is_done-clause-marking_after c = unfold stored_of in search (choice, rules)

pub returns-clause-marking_after : goal.returns-clause-marking_after
unfolding stored_of
returns-clause-marking_after c = search (choice, rules)

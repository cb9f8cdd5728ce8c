use borrow.Author.Rules.{rules}
use Rattle.port.proofs.Packing.{beginning}
use Rattle.port.proofs.skelfora_opening.Goals as goal

pub returns-then-not-is_done-clause-value : goal.returns-then-not-is_done-clause-value
returns-then-not-is_done-clause-value c = search (beginning, rules)

pub returns-then-not-is_done-clause-marking_after : goal.returns-then-not-is_done-clause-marking_after
returns-then-not-is_done-clause-marking_after c = search (beginning, rules)

pub returns-then-marking-marking_room-clause-value : goal.returns-then-marking-marking_room-clause-value
returns-then-marking-marking_room-clause-value c = search (beginning, rules)

pub returns-then-marking-marking_room-clause-marking_after : goal.returns-then-marking-marking_room-clause-marking_after
returns-then-marking-marking_room-clause-marking_after c = search (beginning, rules)

pub returns-clause-value : goal.returns-clause-value
returns-clause-value c = search (beginning, rules)

pub returns-clause-marking_after : goal.returns-clause-marking_after
returns-clause-marking_after c = search (beginning, rules)

use borrow.Author.Rules.{rules}
use Rattle.port.proofs.Packing.{stepping, step-taken}
use Rattle.port.proofs.stepped.Goals as goal

pub returns-then-not-is_done : goal.returns-then-not-is_done
returns-then-not-is_done c = search (stepping, rules)

pub returns-then-marking-marking_room : goal.returns-then-marking-marking_room
returns-then-marking-marking_room c = search (stepping, rules)

pub returns : goal.returns
returns c = step-taken _ (λ k. (c.type_inv.file k).fits) _ _ _ _ c.read_bare-r.ensures.value c.is_done.ensures _
    c.read_bare-r.ensures.relations_after _ _ _ c.if-not-is_done.false c.marking_room.ensures c.if-marking-marking_room.false c.marking_beside-m.ensures
    c.step_on.ensures

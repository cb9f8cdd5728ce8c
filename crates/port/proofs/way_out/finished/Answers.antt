use borrow.Author.Rules.{rules}
use Rattle.port.proofs.WayOut.{finding, finish-searched}
use Rattle.port.proofs.way_out.finished.Goals as goal

pub returns-then-not-is_done : goal.returns-then-not-is_done
returns-then-not-is_done c = search (finding, rules)

pub returns-then-marking-marking_room : goal.returns-then-marking-marking_room
returns-then-marking-marking_room c = search (finding, rules)

pub returns-then-room-lt-LENGTH : goal.returns-then-room-lt-LENGTH
returns-then-room-lt-LENGTH c = search (finding, rules)

pub returns : goal.returns
returns c = finish-searched _ (λ k. (c.type_inv.file k).fits) _ _ _ _ c.read_bare-r.ensures.value c.is_done.ensures _
    c.read_bare-r.ensures.relations_after _ _ c.if-not-is_done.false _ c.marking_room.ensures c.if-marking-marking_room.false c.if-room-lt-LENGTH.false
    c.marking_beside-m.ensures c.way_out_on.ensures

use borrow.Author.Rules.{rules}
use Rattle.port.proofs.WayOut.{finding-there, searched-there}
use Rattle.port.proofs.way_out.finished_at.Goals as goal

pub returns-then-not-is_done : goal.returns-then-not-is_done
returns-then-not-is_done c = search (finding-there, rules)

pub returns-then-not-is_done-2 : goal.returns-then-not-is_done-2
returns-then-not-is_done-2 c = search (finding-there, rules)

pub returns-then-room-lt-LENGTH : goal.returns-then-room-lt-LENGTH
returns-then-room-lt-LENGTH c = search (finding-there, rules)

pub returns : goal.returns
returns c = searched-there _ (λ k. (c.type_inv.file k).fits) _ _ _ _ c.is_wide-wide.ensures _ _ c.judge_place-asked.ensures c.is_done.ensures
    c.if-not-is_done.false _ _ c.read_bare-r.ensures.value c.is_done-2.ensures c.if-not-is_done-2.false _ c.read_bare-r.ensures.relations_after _ c.if-room-lt-LENGTH.false c.finish_on.ensures

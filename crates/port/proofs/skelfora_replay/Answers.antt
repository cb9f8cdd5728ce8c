use Rattle.port.proofs.Packing.{replaying, replay-run}
use borrow.Author.Rules.{rules}
use Rattle.port.proofs.skelfora_replay.Goals as goal

pub returns-then-not-is_done : goal.returns-then-not-is_done
returns-then-not-is_done c = search (replaying, rules)

pub returns-then-trace-gt-LIMIT : goal.returns-then-trace-gt-LIMIT
returns-then-trace-gt-LIMIT c = search (replaying, rules)

pub returns : goal.returns
returns c = replay-run _ _ _ c.read_bare-r.ensures.value _ c.is_done.ensures _ c.if-not-is_done.false (λ k. (c.type_inv.file k).fits) _
    c.read_bare-r.ensures.relations_after c.if-trace-gt-LIMIT.false _ c.is_wide.ensures _ c.walk_in-p.ensures
    c.packed_blocker-2.ensures

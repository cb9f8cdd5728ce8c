use borrow.Author.Rules.{rules}
use Rattle.port.proofs.WayOut.{leaving}
use Rattle.port.proofs.way_out.given.Goals as goal

pub returns-then-not-is_done-clause-way_after : goal.returns-then-not-is_done-clause-way_after
returns-then-not-is_done-clause-way_after c = search (leaving, rules)

pub returns-clause-way_after : goal.returns-clause-way_after
returns-clause-way_after c = search (leaving, rules)

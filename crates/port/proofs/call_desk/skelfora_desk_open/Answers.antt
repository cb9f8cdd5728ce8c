use borrow.Author.Rules.{rules}
use Rattle.port.proofs.Desk.{opening}
use Rattle.port.proofs.call_desk.skelfora_desk_open.Goals as goal

pub returns-then-table-table_room-clause-value : goal.returns-then-table-table_room-clause-value
returns-then-table-table_room-clause-value c = search (opening, rules)

pub returns-then-table-table_room-clause-table_after : goal.returns-then-table-table_room-clause-table_after
returns-then-table-table_room-clause-table_after c = search (opening, rules)

pub returns-then-not-is_done-clause-value : goal.returns-then-not-is_done-clause-value
returns-then-not-is_done-clause-value c = search (opening, rules)

pub returns-then-not-is_done-clause-table_after : goal.returns-then-not-is_done-clause-table_after
returns-then-not-is_done-clause-table_after c = search (opening, rules)

pub returns-clause-value : goal.returns-clause-value
returns-clause-value c = search (opening, rules)

pub returns-clause-table_after : goal.returns-clause-table_after
returns-clause-table_after c = search (opening, rules)

use borrow.Author.Rules.{rules}
use Rattle.port.proofs.Marks.{replaying-file}
use Rattle.port.proofs.marked.skelfora_replays.Goals as goal

pub returns-then-not-is_done-clause-value : goal.returns-then-not-is_done-clause-value
returns-then-not-is_done-clause-value c = search (replaying-file, rules)

pub returns-then-not-is_done-clause-out_after : goal.returns-then-not-is_done-clause-out_after
returns-then-not-is_done-clause-out_after c = search (replaying-file, rules)

pub returns-then-not-is_done-2-clause-value : goal.returns-then-not-is_done-2-clause-value
returns-then-not-is_done-2-clause-value c = search (replaying-file, rules)

pub returns-then-not-is_done-2-clause-out_after : goal.returns-then-not-is_done-2-clause-out_after
returns-then-not-is_done-2-clause-out_after c = search (replaying-file, rules)

pub returns-clause-value : goal.returns-clause-value
returns-clause-value c = search (replaying-file, rules)

pub returns-clause-out_after : goal.returns-clause-out_after
returns-clause-out_after c = search (replaying-file, rules)

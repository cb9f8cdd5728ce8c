use borrow.Author.Rules.{rules}
use Rattle.port.proofs.Packing.{putting}
use Rattle.port.proofs.put.Goals as goal

pub returns-then-not-is_done-clause-value : goal.returns-then-not-is_done-clause-value
returns-then-not-is_done-clause-value c = search (putting, rules)

pub returns-then-not-is_done-clause-out_after : goal.returns-then-not-is_done-clause-out_after
returns-then-not-is_done-clause-out_after c = search (putting, rules)

pub returns-clause-value : goal.returns-clause-value
returns-clause-value c = search (putting, rules)

pub returns-clause-out_after : goal.returns-clause-out_after
returns-clause-out_after c = search (putting, rules)

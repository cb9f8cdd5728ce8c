use borrow.Author.Rules.{rules}
use Rattle.sets.proofs.Members.{taking}
use Rattle.sets.proofs.Passing.{taken-fewer}
use Rattle.sets.proofs.each.MembersIterator.next.Goals as goal

pub returns-then-low-ne0-clause-steps : goal.returns-then-low-ne0-clause-steps
returns-then-low-ne0-clause-steps c = search (taking, rules)

pub returns-then-low-ne0-clause-goes : goal.returns-then-low-ne0-clause-goes
returns-then-low-ne0-clause-goes c = search (taking, taken-fewer, rules)

pub returns-then-high-ne0-clause-steps : goal.returns-then-high-ne0-clause-steps
returns-then-high-ne0-clause-steps c = search (taking, rules)

pub returns-then-high-ne0-clause-goes : goal.returns-then-high-ne0-clause-goes
returns-then-high-ne0-clause-goes c = search (taking, taken-fewer, rules)

pub returns-clause-steps : goal.returns-clause-steps
returns-clause-steps c = search (taking, rules)

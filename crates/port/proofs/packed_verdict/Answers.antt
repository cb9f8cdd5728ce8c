use Rattle.port.proofs.Packing.{verdict-yes, verdict-no}
use borrow.Author.Rules.{rules}
use Rattle.port.proofs.packed_verdict.Goals as goal

pub returns-then-accepting-clause-value : goal.returns-then-accepting-clause-value
returns-then-accepting-clause-value c = search (verdict-yes, rules)

pub returns-else-accepting-clause-value : goal.returns-else-accepting-clause-value
returns-else-accepting-clause-value c = search (verdict-no, rules)

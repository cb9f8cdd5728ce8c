use Rattle.port.proofs.Packing.{blocked-is}
use borrow.Author.Rules.{rules}
use Rattle.port.proofs.packed_blocker.Goals as goal

pub returns : goal.returns
returns c = search (blocked-is, rules)

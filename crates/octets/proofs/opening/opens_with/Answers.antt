use borrow.Author.Rules.{rules}
use Rattle.octets.proofs.Opens.{opens-starts}
use Rattle.octets.proofs.opening.opens_with.Goals as goal

pub returns : goal.returns
returns c = search (opens-starts, rules)

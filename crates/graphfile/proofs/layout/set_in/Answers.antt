use borrow.Author.Rules.{rules}
use Rattle.graphfile.proofs.Places.{set-cut}
use Rattle.graphfile.proofs.layout.set_in.Goals as goal

pub returns : goal.returns
returns c = search (set-cut, rules)

use borrow.Author.Rules.{rules}
use Rattle.graphfile.proofs.Places.{number_cut}
use Rattle.graphfile.proofs.layout.number_in.Goals as goal

pub returns : goal.returns
returns c = search (number_cut, rules)

use borrow.Author.Rules.{rules}
use Rattle.finish.proofs.Searching.{finish-beside}
use Rattle.finish.proofs.search.way_out_on.Goals as goal

pub returns : goal.returns
returns c = search (finish-beside, rules)

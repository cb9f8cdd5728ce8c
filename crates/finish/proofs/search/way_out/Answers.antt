use borrow.Author.Rules.{rules}
use Rattle.finish.proofs.Searching.{finish-judged}
use Rattle.finish.proofs.search.way_out.Goals as goal

pub returns : goal.returns
returns c = search (finish-judged, rules)

use borrow.Author.Rules.{rules}
use Rattle.finish.proofs.Searching.{shortening}
use Rattle.finish.proofs.search.Search.shortest.Goals as goal

pub returns-in-Some : goal.returns-in-Some
returns-in-Some c = search (shortening, rules)

pub returns : goal.returns
returns c = search (shortening, rules)

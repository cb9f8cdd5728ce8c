use borrow.Author.Rules.{rules}
use Rattle.report.proofs.LineLaws.{pairing}
use Rattle.report.proofs.relations.put_pair.Goals as goal

pub named-requires : goal.named-requires
named-requires c = search (pairing, rules)

pub number-requires : goal.number-requires
number-requires c = search (pairing, rules)

pub returns : goal.returns
returns c = search (pairing, rules)

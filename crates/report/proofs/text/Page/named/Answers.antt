use borrow.Author.Rules.{rules}
use Rattle.report.proofs.PutLaws.{naming}
use Rattle.report.proofs.text.Page.named.Goals as goal

pub word-requires : goal.word-requires
word-requires c = search (naming, rules)

pub number-requires : goal.number-requires
number-requires c = search (naming, rules)

pub returns : goal.returns
returns c = search (naming, rules)

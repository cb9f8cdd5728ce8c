use Rattle.calllog.proofs.Scans.{number_is}
use borrow.Author.Rules.{rules}
use Rattle.calllog.proofs.layout.present_number.Goals as goal

pub returns : goal.returns
returns c = search (number_is, rules)

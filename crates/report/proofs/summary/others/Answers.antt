use borrow.Author.Rules.{rules}
use Rattle.report.proofs.SummaryLaws.{others_by}
use Rattle.report.proofs.summary.others.Goals as goal

pub returns : goal.returns
returns c = search (others_by, rules)

use borrow.Author.Rules.{rules}
use Rattle.report.proofs.SummaryLaws.{summary-1, summary-2, summary-put}
use Rattle.report.proofs.summary.put_summary.Goals as goal

pub put_counts-requires : goal.put_counts-requires
put_counts-requires c = search (summary-1, rules)

pub put_counts-requires-2 : goal.put_counts-requires-2
put_counts-requires-2 c = search (summary-2, rules)

pub returns : goal.returns
returns c =
    let page = c.new-page.ensures in
    summary-put _ _ _ _ _ c.taken-conditions.ensures c.turned-listed.ensures _ page.bytes page.place _ _ _
    c.put_counts.ensures c.put_counts-2.ensures (search rules)

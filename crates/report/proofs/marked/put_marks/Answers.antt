use borrow.Author.Rules.{rules}
use Rattle.report.proofs.MarkLaws.{marks-1, marks-2, marks-paged}
use Rattle.report.proofs.marked.put_marks.Goals as goal

pub put_counts-requires : goal.put_counts-requires
put_counts-requires c = search (marks-1, rules)

pub put_measures-requires : goal.put_measures-requires
put_measures-requires c = search (marks-2, rules)

pub returns : goal.returns
returns c =
    let page = c.new-page.ensures in
    marks-paged _ _ _ _ c.precision-p.ensures c.recall-r.ensures c.accuracy-a.ensures _ _ page.bytes page.place _ _ _
    c.put_counts.ensures c.put_measures.ensures (search rules)

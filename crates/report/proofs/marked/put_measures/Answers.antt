use borrow.Author.Rules.{rules}
use Rattle.report.proofs.MarkLaws.{measures-1, measures-2, measures-3, measures-put}
use Rattle.report.proofs.marked.put_measures.Goals as goal

pub put_measure-requires : goal.put_measure-requires
put_measure-requires c = search (measures-1, rules)

pub put_measure-requires-2 : goal.put_measure-requires-2
put_measure-requires-2 c = search (measures-2, rules)

pub put_measure-requires-3 : goal.put_measure-requires-3
put_measure-requires-3 c = search (measures-3, rules)

pub returns : goal.returns
returns c = search (measures-put, rules)

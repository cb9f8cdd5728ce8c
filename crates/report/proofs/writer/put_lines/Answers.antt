use borrow.Author.Rules.{rules}
use Rattle.report.proofs.WholeLaws.{lines-1, lines-2, lines-3, lines-put}
use Rattle.report.proofs.writer.put_lines.Goals as goal

pub put_heading-requires : goal.put_heading-requires
put_heading-requires c = search (lines-1, rules)

pub put_relations-requires : goal.put_relations-requires
put_relations-requires c = search (lines-2, rules)

pub put_traces-requires : goal.put_traces-requires
put_traces-requires c = search (lines-3, rules)

pub returns : goal.returns
returns c = search (lines-put, rules)

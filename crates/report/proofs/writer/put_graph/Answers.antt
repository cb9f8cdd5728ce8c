use borrow.Author.Rules.{rules}
use Rattle.report.proofs.WholeLaws.{graph-room, graph-put}
use Rattle.report.proofs.writer.put_graph.Goals as goal

pub put_lines-requires : goal.put_lines-requires
put_lines-requires c = search (graph-room, rules)

pub returns : goal.returns
returns c = search (graph-put, rules)

use borrow.Author.Rules.{rules}
use Rattle.graphfile.proofs.RowStores.{each_row, kept-length}
use Rattle.graphfile.proofs.writer.put_rows.Goals as goal

pub put_row-next-requires : goal.put_row-next-requires
put_row-next-requires g c = search (each_row, rules)

pub loop-a-preserved : goal.loop-a-preserved
loop-a-preserved g c = search (each_row, kept-length, rules)

pub returns-clause-value : goal.returns-clause-value
returns-clause-value g c = search (each_row, rules)

pub returns-clause-out_after : goal.returns-clause-out_after
returns-clause-out_after g c = search (each_row, rules)

use borrow.Author.Rules.{rules}
use Rattle.graphfile.proofs.RowStores.{kept-length}
use Rattle.graphfile.proofs.Stores.{each-relation}
use Rattle.graphfile.proofs.writer.put_relations.Goals as goal

pub loop-r-init : goal.loop-r-init
loop-r-init g c = search (each-relation, rules)

pub put_rows-next-requires : goal.put_rows-next-requires
put_rows-next-requires g c = search (each-relation, kept-length, rules)

pub loop-r-preserved : goal.loop-r-preserved
loop-r-preserved g c = search (each-relation, kept-length, rules)

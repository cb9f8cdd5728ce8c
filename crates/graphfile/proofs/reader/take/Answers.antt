use borrow.Author.Rules.{rules}
use Rattle.graphfile.proofs.Accepted.{end-within}
use Rattle.graphfile.proofs.Filling.{reading-through}
use Rattle.graphfile.proofs.reader.take.Goals as goal

pub returns-then-not-is_done-clause-err : goal.returns-then-not-is_done-clause-err
returns-then-not-is_done-clause-err c = search (reading-through, rules)

pub returns-then-not-is_done-2-clause-err : goal.returns-then-not-is_done-2-clause-err
returns-then-not-is_done-2-clause-err c = search (reading-through, rules)

pub returns-clause-ok : goal.returns-clause-ok
returns-clause-ok c = search (reading-through, rules)

pub take_relations-rows-requires : goal.take_relations-rows-requires
take_relations-rows-requires c = search (end-within, rules)

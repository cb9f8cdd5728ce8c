use borrow.Author.Rules.{rules}
use Rattle.graphfile.proofs.RowStores.{storing}
use Rattle.graphfile.proofs.writer.put_row.Goals as goal

pub returns-then-is_empty-clause-value : goal.returns-then-is_empty-clause-value
returns-then-is_empty-clause-value g c = search (storing, rules)

pub returns-then-is_empty-clause-out_after : goal.returns-then-is_empty-clause-out_after
returns-then-is_empty-clause-out_after g c = search (storing, rules)

pub bounds-out-at : goal.bounds-out-at
bounds-out-at g c = search (storing, rules)

pub returns-clause-value : goal.returns-clause-value
returns-clause-value g c = search (storing, rules)

pub returns-clause-out_after : goal.returns-clause-out_after
returns-clause-out_after g c = search (storing, rules)

use borrow.Author.Rules.{rules}
use Rattle.report.proofs.PutLaws.{of-four-1, of-four-2, of-four-3, of-four-4, put_four}
use Rattle.report.proofs.relations.put_relations.Goals as goal

pub put_pairs-requires : goal.put_pairs-requires
put_pairs-requires c = search (of-four-1, rules)

pub put_pairs-requires-2 : goal.put_pairs-requires-2
put_pairs-requires-2 c = search (of-four-2, rules)

pub put_pairs-requires-3 : goal.put_pairs-requires-3
put_pairs-requires-3 c = search (of-four-3, rules)

pub put_pairs-requires-4 : goal.put_pairs-requires-4
put_pairs-requires-4 c = search (of-four-4, rules)

pub returns : goal.returns
returns c = search (put_four, rules)

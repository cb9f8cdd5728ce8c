use borrow.Author.Rules.{rules}
use Rattle.graphfile.proofs.Stores.{head-stored}
use Rattle.graphfile.proofs.writer.put_head.Goals as goal

pub returns : goal.returns
returns c = search (head-stored, rules)

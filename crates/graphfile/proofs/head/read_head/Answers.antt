use borrow.Author.Rules.{rules}
use Rattle.graphfile.proofs.Forms.{forms}
use Rattle.graphfile.proofs.head.read_head.Goals as goal

pub returns-then-bytes-length : goal.returns-then-bytes-length
returns-then-bytes-length c = search (forms, rules)

pub returns : goal.returns
returns c = search (forms, rules)

use borrow.Author.Rules.{rules}
use Rattle.graphfile.proofs.Stores.{entries-stored}
use Rattle.graphfile.proofs.writer.put_entries.Goals as goal

pub returns : goal.returns
returns c = search (entries-stored, rules)

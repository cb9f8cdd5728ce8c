use borrow.Author.Rules.{rules}
use Rattle.graphfile.proofs.Stores.{entries_by, file-stored}
use Rattle.graphfile.proofs.writer.put_file.Goals as goal

pub returns : goal.returns
returns g c = search (entries_by, file-stored, rules)

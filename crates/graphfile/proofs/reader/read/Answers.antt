use borrow.Author.Rules.{rules}
use Rattle.graphfile.proofs.Filling.{read_taken, read-refused}
use Rattle.graphfile.proofs.reader.read.Goals as goal

pub returns-then-is_done : goal.returns-then-is_done
returns-then-is_done c = search (read_taken, rules)

pub returns-else-is_done : goal.returns-else-is_done
returns-else-is_done c = search (read-refused, rules)

use borrow.Author.Rules.{rules}
use Rattle.desk.proofs.Serving.{open-low}
use Rattle.desk.proofs.table.Table.call_at.Goals as goal

pub marking_at-requires : goal.marking_at-requires
marking_at-requires c = search (open-low, rules)

use Rattle.graphfile.proofs.Places.{counting}
use borrow.Author.Rules.{rules}
use Rattle.graphfile.proofs.file.File.earlier_rows.Goals as goal

pub loop-i-init : goal.loop-i-init
loop-i-init c = search (counting, rules)

pub loop-i-preserved : goal.loop-i-preserved
loop-i-preserved c = search (counting, rules)

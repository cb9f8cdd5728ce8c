use borrow.Author.Rules.{rules}
use Rattle.sets.proofs.TableLaws.{putting}
use Rattle.sets.proofs.tables.put_rows.Goals as goal

pub loop-i-init : goal.loop-i-init
loop-i-init c = search (putting, rules)

pub loop-i-preserved : goal.loop-i-preserved
loop-i-preserved c = search (putting, rules)

pub returns : goal.returns
returns c = search (putting, rules)

use borrow.Author.Rules.{rules}
use Rattle.sets.proofs.TableLaws.{placing}
use Rattle.sets.proofs.tables.row.Goals as goal

pub returns-then-n-ge-WIDTH : goal.returns-then-n-ge-WIDTH
returns-then-n-ge-WIDTH c = search (placing, rules)

pub returns : goal.returns
returns c = search (placing, rules)

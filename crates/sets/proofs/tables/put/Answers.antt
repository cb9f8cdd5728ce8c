use borrow.Author.Rules.{rules}
use Rattle.sets.proofs.TableLaws.{placing}
use Rattle.sets.proofs.tables.put.Goals as goal

pub returns-then-n-lt-WIDTH : goal.returns-then-n-lt-WIDTH
returns-then-n-lt-WIDTH c = search (placing, rules)

pub returns-else-n-lt-WIDTH : goal.returns-else-n-lt-WIDTH
returns-else-n-lt-WIDTH c = search (placing, rules)

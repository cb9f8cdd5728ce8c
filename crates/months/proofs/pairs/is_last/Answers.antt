use borrow.Author.Rules.{rules}
use Rattle.months.proofs.Gaining.{last-inside, last-outside}
use Rattle.months.proofs.pairs.is_last.Goals as goal

pub returns-then-n-lt-WIDTH : goal.returns-then-n-lt-WIDTH
returns-then-n-lt-WIDTH c = search (last-inside, rules)

pub returns : goal.returns
returns c = search (last-outside, rules)

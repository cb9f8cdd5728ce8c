use borrow.Author.Rules.{rules}
use Rattle.tally.proofs.LookBack.{stop-empty, stop-at}
use Rattle.tally.proofs.look_back.is_passed.Goals as goal

pub returns-then-is_empty : goal.returns-then-is_empty
returns-then-is_empty c = search (stop-empty, rules)

pub returns : goal.returns
returns c = search (stop-at, rules)

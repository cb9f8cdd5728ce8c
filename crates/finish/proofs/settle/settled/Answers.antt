use borrow.Author.Rules.{rules}
use Rattle.finish.proofs.Settling.{settled-none, settled-some}
use Rattle.finish.proofs.settle.settled.Goals as goal

pub returns-then-not-is_empty : goal.returns-then-not-is_empty
returns-then-not-is_empty c = search (settled-none, rules)

pub returns : goal.returns
returns c = search (settled-some, rules)

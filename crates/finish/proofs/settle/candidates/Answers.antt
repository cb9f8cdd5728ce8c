use borrow.Author.Rules.{rules}
use Rattle.finish.proofs.Settling.{candidates-last, candidates-all}
use Rattle.finish.proofs.settle.candidates.Goals as goal

pub returns-then-left-eq1 : goal.returns-then-left-eq1
returns-then-left-eq1 c = search (candidates-last, rules)

pub returns : goal.returns
returns c = search (candidates-all, rules)

use borrow.Author.Rules.{rules}
use Rattle.port.proofs.Marks.{marking-file}
use Rattle.port.proofs.marked.marked.Goals as goal

pub returns-then-not-is_done : goal.returns-then-not-is_done
returns-then-not-is_done c = search (marking-file, rules)

pub returns-then-not-is_done-2 : goal.returns-then-not-is_done-2
returns-then-not-is_done-2 c = search (marking-file, rules)

pub returns : goal.returns
returns c = search (marking-file, rules)

use Rattle.sets.proofs.Ways.{choice, conjunction}
use Rattle.plain.proofs.Stepping.{source-below, source-not-below}
use borrow.Author.Rules.{rules}
use Rattle.plain.proofs.step.smaller.Goals as goal

pub returns-then-not-is_blocking : goal.returns-then-not-is_blocking
returns-then-not-is_blocking c = search (choice, conjunction, rules)

pub returns-then-found-least : goal.returns-then-found-least
returns-then-found-least c = search (choice, conjunction, source-below, rules)

pub returns : goal.returns
returns c = search (choice, conjunction, source-not-below, rules)

use Rattle.plain.proofs.Stepping.{smallest-begin, smallest-next, smallest-end, waits-below, waits-not}
use borrow.Author.Rules.{rules}
use Rattle.plain.proofs.step.blocker.Goals as goal

pub loop-pair-preserved : goal.loop-pair-preserved
loop-pair-preserved c = search (smallest-begin, smallest-next, smallest-end, rules)

pub returns-then-least-lt-LIMIT : goal.returns-then-least-lt-LIMIT
returns-then-least-lt-LIMIT c = search (smallest-end, waits-below, rules)

pub returns-else-least-lt-LIMIT : goal.returns-else-least-lt-LIMIT
returns-else-least-lt-LIMIT c = search (smallest-end, waits-not, rules)

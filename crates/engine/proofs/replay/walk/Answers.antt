use borrow.Author.Rules.{rules}
use Rattle.sets.proofs.Members.{Fits}
use Rattle.engine.proofs.Narrow.{walk-cut}
use Rattle.engine.proofs.replay.walk.Goals as goal
use Rattle.engine.proofs.replay.walk.Goals.{Start}

-- as every state of the code has it
fits : (c : Start) → Fits c.args.opening.executed × (Fits c.args.opening.pending × Fits c.args.opening.included)
fits c = search rules

pub returns-then-is_few : goal.returns-then-is_few
returns-then-is_few c = let f = fits (goal.at.returns-then-is_few c).Start in search (walk-cut, f, rules)

use borrow.Author.Rules.{rules}
use Rattle.engine.specs.Replay.{stepped_on}
use Rattle.engine.proofs.Running.{stepped-as}
use Rattle.engine.proofs.step.step_on.Goals as goal

pub returns : goal.returns
returns c = unfold stepped_on in search (stepped-as, rules)

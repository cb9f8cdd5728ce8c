use borrow.Author.Rules.{rules}
use Rattle.engine.specs.Replay.{stepped_of}
use Rattle.engine.proofs.Running.{stepped-as}
use Rattle.engine.proofs.step.step.Goals as goal

pub returns : goal.returns
returns c = unfold stepped_of in search (stepped-as, rules)

use borrow.Author.Rules.{rules}
use Rattle.engine.specs.Replay.{enabled_on}
use Rattle.engine.proofs.Judging.{asked-as}
use Rattle.engine.proofs.step.ask_on.Goals as goal

pub returns : goal.returns
returns c = unfold enabled_on in search (asked-as, rules)

use borrow.Author.Rules.{rules}
use Rattle.engine.specs.Replay.{enabled_of}
use Rattle.engine.proofs.Judging.{asked-as}
use Rattle.engine.proofs.step.ask_judged.Goals as goal

pub returns : goal.returns
returns c = unfold enabled_of in search (asked-as, rules)

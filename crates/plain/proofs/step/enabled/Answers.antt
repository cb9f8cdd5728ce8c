use Rattle.engine.proofs.Judging.{ask-stops, ask-goes}
use Rattle.plain.specs.Results.{plain_enabled_of}
use borrow.Author.Rules.{rules}
use Rattle.plain.proofs.step.enabled.Goals as goal

pub returns-then-not-is_done : goal.returns-then-not-is_done
returns-then-not-is_done c = unfold plain_enabled_of in search (ask-stops, rules)

pub returns : goal.returns
returns c = unfold plain_enabled_of in search (ask-goes, rules)

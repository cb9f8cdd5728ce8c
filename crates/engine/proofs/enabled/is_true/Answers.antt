use borrow.Author.Rules.{rules}
use Rattle.engine.specs.Enabled.{is_true}
use Rattle.engine.proofs.Enabling.{same_true, asked_true}
use Rattle.engine.proofs.enabled.is_true.Goals as goal

pub returns : goal.returns
returns c = unfold is_true in search (same_true, asked_true, rules)

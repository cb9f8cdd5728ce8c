use borrow.Author.Rules.{rules}
use Rattle.plain.proofs.Enabling.{equal-true, asked-true}
use Rattle.plain.proofs.enabled.is_true.Goals as goal

pub returns : goal.returns
returns c = search (equal-true, asked-true, rules)

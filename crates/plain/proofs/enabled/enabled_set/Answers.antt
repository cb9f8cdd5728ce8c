use borrow.Author.Rules.{rules}
use Rattle.plain.proofs.Enabling.{enabled-by}
use Rattle.plain.proofs.enabled.enabled_set.Goals as goal

pub returns : goal.returns
returns c = search (enabled-by, rules)

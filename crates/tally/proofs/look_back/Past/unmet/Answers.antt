use borrow.Author.Rules.{rules}
use Rattle.tally.proofs.look_back.Past.unmet.Goals as goal

pub returns : goal.returns
returns c = search rules

use borrow.Author.Rules.{rules}
use Rattle.miner.proofs.excludes.excludes_six.Goals as goal

pub returns-in-Full : goal.returns-in-Full
returns-in-Full c = search rules

pub returns-in-Light : goal.returns-in-Light
returns-in-Light c = search rules

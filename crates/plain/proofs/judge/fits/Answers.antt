use Rattle.sets.proofs.Ways.{choice}
use borrow.Author.Rules.{rules}
use Rattle.plain.proofs.judge.fits.Goals as goal

pub returns : goal.returns
returns c = search (choice, rules)

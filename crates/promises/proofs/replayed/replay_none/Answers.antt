use borrow.Author.Rules.{rules}
use Rattle.promises.proofs.Own.{none-through}
use Rattle.promises.proofs.replayed.replay_none.Goals as goal

pub returns : goal.returns
returns c = search (none-through, rules)

use borrow.Author.Rules.{rules}
use Rattle.marks.proofs.Replaying.{writing}
use Rattle.marks.proofs.replays.write_replays.Goals as goal

pub returns-clause-out_after : goal.returns-clause-out_after
returns-clause-out_after c = search (writing, rules)

use borrow.Author.Rules.{rules}
use Rattle.tally.proofs.Turns.{joined_by}
use Rattle.miner.proofs.Replaying.{formed-by}
use Rattle.miner.proofs.conditions.Waiting.note.Goals as goal

pub returns-clause-before : goal.returns-clause-before
returns-clause-before g c = formed-by _ _ _ _ _ _ _ c.at_first.ensures
    c.in_form-early.ensures c.gain.ensures

pub returns-clause-left : goal.returns-clause-left
returns-clause-left g c = search (joined_by, rules)

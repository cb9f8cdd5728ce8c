use borrow.Author.Rules.{rules}
use Rattle.tally.proofs.Turns.{rest_put, rest-left}
use Rattle.tally.proofs.passes.note_rest.Goals as goal

pub returns-then-not-holds : goal.returns-then-not-holds
returns-then-not-holds g c = search (rest-left, rules)

pub returns : goal.returns
returns g c = search (rest_put, rules)

use borrow.Author.Rules.{rules}
use Rattle.tally.proofs.Alternate.{place-put, place-left}
use Rattle.tally.proofs.passes.note_place.Goals as goal

pub returns-then-holds-clause-tally_after : goal.returns-then-holds-clause-tally_after
returns-then-holds-clause-tally_after g c = search (place-put, rules)

pub returns-else-holds-clause-tally_after : goal.returns-else-holds-clause-tally_after
returns-else-holds-clause-tally_after g c = search (place-left, rules)

use borrow.Author.Rules.{rules}
use Rattle.tally.proofs.log.note_traces_in.Goals as goal

pub returns-then-wide-clause-value : goal.returns-then-wide-clause-value
returns-then-wide-clause-value c = search rules

pub returns-then-wide-clause-tally_after : goal.returns-then-wide-clause-tally_after
returns-then-wide-clause-tally_after c = search rules

pub returns-else-wide-clause-value : goal.returns-else-wide-clause-value
returns-else-wide-clause-value c = search rules

pub returns-else-wide-clause-tally_after : goal.returns-else-wide-clause-tally_after
returns-else-wide-clause-tally_after c = search rules

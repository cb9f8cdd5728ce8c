use borrow.Author.Rules.{rules}
use Rattle.port.proofs.Packing.{profiles}
use Rattle.port.proofs.skelfora_mine.Goals as goal

pub returns-in_default-clause-value : goal.returns-in_default-clause-value
returns-in_default-clause-value c = search (profiles, rules)

pub returns-in_default-clause-file_after : goal.returns-in_default-clause-file_after
returns-in_default-clause-file_after c = search (profiles, rules)

pub returns-clause-value : goal.returns-clause-value
returns-clause-value c = search (profiles, rules)

pub returns-clause-file_after : goal.returns-clause-file_after
returns-clause-file_after c = search (profiles, rules)

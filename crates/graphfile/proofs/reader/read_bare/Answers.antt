use borrow.Author.Rules.{rules}
use Rattle.graphfile.proofs.Filling.{bare-refused, bare-cleared, bare-found, bare-filled}
use Rattle.graphfile.proofs.reader.read_bare.Goals as goal

pub returns-in-Err-clause-value : goal.returns-in-Err-clause-value
returns-in-Err-clause-value c = search (bare-refused, rules)

pub returns-in-Err-clause-relations_after : goal.returns-in-Err-clause-relations_after
returns-in-Err-clause-relations_after c = search (bare-cleared, rules)

pub returns-in-Ok-clause-value : goal.returns-in-Ok-clause-value
returns-in-Ok-clause-value c = search (bare-found, rules)

pub returns-in-Ok-clause-relations_after : goal.returns-in-Ok-clause-relations_after
returns-in-Ok-clause-relations_after c = search (bare-filled, rules)

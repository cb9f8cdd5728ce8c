use borrow.Author.Rules.{rules}
use Rattle.graphfile.proofs.Stores.{state-stored}
use Rattle.graphfile.proofs.writer.put_state.Goals as goal

pub returns : goal.returns
returns c = search (state-stored, rules)

use borrow.Author.Rules.{rules}
use Rattle.miner.proofs.After.{last-known}
use Rattle.miner.proofs.includes.let_in_trace.Goals as goal

pub let_in_along-requires-clause-by_index : goal.let_in_along-requires-clause-by_index
let_in_along-requires-clause-by_index g c = search (last-known, rules)

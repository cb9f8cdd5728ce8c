use borrow.Author.Rules.{rules}
use Rattle.miner.proofs.mining.graph_found.Goals as goal

pub returns-then-activities-gt-WORD-clause-value : goal.returns-then-activities-gt-WORD-clause-value
returns-then-activities-gt-WORD-clause-value c = search rules

pub returns-then-activities-gt-WORD-clause-found_after : goal.returns-then-activities-gt-WORD-clause-found_after
returns-then-activities-gt-WORD-clause-found_after c = search rules

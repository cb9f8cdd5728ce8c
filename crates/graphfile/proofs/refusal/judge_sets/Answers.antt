use borrow.Author.Rules.{rules}
use Rattle.graphfile.proofs.Judging.{both-sets}
use Rattle.graphfile.proofs.refusal.judge_sets.Goals as goal

pub returns-then-not-is_within : goal.returns-then-not-is_within
returns-then-not-is_within c = search (both-sets, rules)

pub returns-then-not-state_within : goal.returns-then-not-state_within
returns-then-not-state_within c = search (both-sets, rules)

pub returns : goal.returns
returns c = search (both-sets, rules)

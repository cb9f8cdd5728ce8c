use borrow.Author.Rules.{rules}
use Rattle.graphfile.proofs.Judging.{heads}
use Rattle.graphfile.proofs.refusal.judge_head.Goals as goal

pub returns-then-is_beyond : goal.returns-then-is_beyond
returns-then-is_beyond c = search (heads, rules)

pub returns : goal.returns
returns c = search (heads, rules)

use borrow.Author.Rules.{rules}
use Rattle.miner.proofs.Reopening.{walk_start, walk-next, walk_end, walk-short}
use Rattle.miner.proofs.redundant.Sources.reopen_in.Goals as goal

pub loop-k-init : goal.loop-k-init
loop-k-init g c = (search rules, walk_start _ _ _ _ _ _)

pub returns-then-none_doubted : goal.returns-then-none_doubted
returns-then-none_doubted g c = walk-short _ _ _ _ _ _ _ _ _ _ c.loop-k.invariant.1 _ _ c.none_doubted.ensures c.if-none_doubted.true

pub loop-k-preserved : goal.loop-k-preserved
loop-k-preserved g c = search (walk-next, rules)

pub returns : goal.returns
returns g c = walk_end _ _ _ _ _ _ _ _ _ _ c.loop-k.invariant.1 c.loop-k-test.false

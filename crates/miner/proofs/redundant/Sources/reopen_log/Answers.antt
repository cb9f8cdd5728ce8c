use Rattle.sets.specs.Members.{mem}
use Rattle.sets.proofs.Tests.{and_r}
use Rattle.miner.proofs.Reopening.{held-narrow, held-wide}
use Rattle.miner.proofs.redundant.Sources.reopen_log.Goals as goal

pub returns-then-is_within : goal.returns-then-is_within
returns-then-is_within c = λ r hr a x la lx p. c.reopen_in.ensures r hr a x la lx p
    (held-narrow _ _ _ c.below.ensures c.is_within.ensures c.if-is_within.true x lx (and_r (mem c.args.pairs.from a) _ p))

pub returns-else-is_within : goal.returns-else-is_within
returns-else-is_within c = λ r hr a x la lx p. c.reopen_in-else-is_within.ensures r hr a x la lx p (held-wide x)

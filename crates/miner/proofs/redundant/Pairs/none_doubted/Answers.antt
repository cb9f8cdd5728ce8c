use Rattle.miner.proofs.Settling.{not-asked, asked-empty}
use Rattle.miner.proofs.redundant.Pairs.none_doubted.Goals as goal

pub returns-then-k-ne0 : goal.returns-then-k-ne0
returns-then-k-ne0 c = not-asked _ _ _ c.if-k-ne0.true

pub returns : goal.returns
returns c = asked-empty _ _ _ _ _ _ _ c.if-k-ne0.false c.union_of.ensures
    c.intersection-open.ensures c.is_empty.ensures

use borrow.Author.Rules.{rules}
use Rattle.miner.proofs.After.{left-last, left_out}
use Rattle.miner.proofs.includes.left_after.Goals as goal

pub returns-then-n-lt-WIDTH : goal.returns-then-n-lt-WIDTH
returns-then-n-lt-WIDTH c = let a = c.args in
    left-last a.after a.last.now a.e.0 a.at.0 _ _ c.one_if-gone.ensures c.difference.ensures

pub returns : goal.returns
returns c = let a = c.args in left_out a.after a.last.now a.e.0 a.at.0 (search rules) (search rules)

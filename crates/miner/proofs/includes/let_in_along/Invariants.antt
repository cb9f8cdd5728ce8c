use denote.Param.{number}
use Rattle.miner.specs.contracts.includes.let_in_along.{WIDE-type}
use Rattle.miner.proofs.After.{LetIn}
use Rattle.miner.proofs.includes.let_in_along.Given as goal

abbrev pub invariant-loop-i : goal.invariant-loop-i
invariant-loop-i g l = LetIn (WIDE-type (number g.row.WIDE)) l.trace l.unfollowed l.initial.out l.out l.after l.barred l.i

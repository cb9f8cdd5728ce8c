use borrow.Author.Rules.{rules}
use Rattle.finish.specs.Shut.{shut_by}
use Rattle.finish.proofs.Shutting.{shut-next, shut-end}
use Rattle.finish.proofs.shut.shut_by.Goals as goal

pub loop-e-preserved : goal.loop-e-preserved
loop-e-preserved c = search (shut-next, rules)

pub returns : goal.returns
unfolding shut_by
returns c = search (shut-end, rules)

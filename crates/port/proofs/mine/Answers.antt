use borrow.Author.Rules.{rules}
use Rattle.port.proofs.Packing.{mined-ok}
use Rattle.port.proofs.mine.Goals as goal

pub put-requires : goal.put-requires
put-requires c = search (mined-ok, rules)

use Rattle.octets.proofs.Codec.{writing}
use borrow.Author.Rules.{rules}
use Rattle.octets.proofs.number.put_value.Goals as goal

pub loop-i-preserved : goal.loop-i-preserved
loop-i-preserved c = search (writing, rules)

pub returns : goal.returns
returns c = search (writing, rules)

use borrow.Author.Rules.{rules}
use Rattle.report.proofs.PutLaws.{left-all, byte-room, byte_next, byte_last}
use Rattle.report.proofs.text.Page.bytes.Goals as goal

pub loop-b-init : goal.loop-b-init
loop-b-init c = search (left-all, rules)

pub byte-requires : goal.byte-requires
byte-requires c = search (byte-room, rules)

pub loop-b-preserved : goal.loop-b-preserved
loop-b-preserved c = byte_next _ _ _ _ c.loop-b.invariant _ c.loop-b-test.true c.byte.ensures

pub returns : goal.returns
returns c = search (byte_last, rules)

use borrow.Author.Rules.{rules}
use Rattle.port.proofs.WayOut.{way-put, way-short}
use Rattle.port.proofs.way_out.put_way.Goals as goal

pub returns-then-out-ge-LENGTH : goal.returns-then-out-ge-LENGTH
returns-then-out-ge-LENGTH c = search (way-put, rules)

pub returns-else-out-ge-LENGTH : goal.returns-else-out-ge-LENGTH
returns-else-out-ge-LENGTH c = search (way-short, rules)

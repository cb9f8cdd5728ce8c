use borrow.Author.Rules.{rules}
use Rattle.port.proofs.WayOut.{shut_out}
use Rattle.port.proofs.way_out.skelfora_shut_by.Goals as goal

pub returns-then-not-is_done : goal.returns-then-not-is_done
returns-then-not-is_done c = search (shut_out, rules)

pub returns : goal.returns
returns c = search (shut_out, rules)

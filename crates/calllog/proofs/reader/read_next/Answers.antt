use Rattle.calllog.specs.Logs.{asked_of}
use Rattle.calllog.proofs.reader.read_next.Goals as goal

pub returns : goal.returns
unfolding asked_of
returns c = let e = c.next_trace-found.ensures in λ i. record { found = e.0 i; next = (e.1 i).next }

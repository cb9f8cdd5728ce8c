use borrow.Author.Rules.{rules}
use Rattle.report.proofs.TraceLaws.{traces-start, traces-room, traces-turn, traces-end}
use Rattle.report.proofs.replays.put_traces.Goals as goal

pub loop-k-init : goal.loop-k-init
loop-k-init c = search (traces-start, rules)

pub put_trace-requires : goal.put_trace-requires
put_trace-requires c = search (traces-room, rules)

pub loop-k-preserved : goal.loop-k-preserved
loop-k-preserved c = search (traces-turn, rules)

pub returns : goal.returns
returns c = search (traces-end, rules)

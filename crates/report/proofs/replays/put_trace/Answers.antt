use borrow.Author.Rules.{rules}
use Rattle.report.proofs.LineLaws.{trace-room, trace-put, one-if}
use Rattle.report.proofs.replays.put_trace.Goals as goal

pub put_trace_line-requires : goal.put_trace_line-requires
put_trace_line-requires c = search (trace-room, one-if, rules)

pub returns : goal.returns
returns c = search (trace-put, rules)

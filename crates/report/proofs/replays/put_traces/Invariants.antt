use Rattle.engine.specs.Relations.{in_tables}
use Rattle.engine.specs.Replay.{replay_from}
use Rattle.tally.specs.Passes.{walked}
use Rattle.report.specs.Listing.{trace_lines}
use Rattle.report.proofs.PutLaws.{Left}
use Rattle.report.proofs.TraceLaws.{traces_text}
use Rattle.report.proofs.replays.put_traces.Given as goal

abbrev pub invariant-loop-k : goal.invariant-loop-k
invariant-loop-k l = Left l.initial.page (trace_lines (replay_from l.g.head.events (in_tables l.g.relations.now) l.g.head.opening.state 0) 0 (walked l.log l.traces 0)) l.page
    (traces_text l.g.head.events (in_tables l.g.relations.now) l.g.head.opening.state l.log l.traces l.k)

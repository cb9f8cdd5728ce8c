-- The traces that the passes of mining walk over.
use Rattle.rules.specs.Traces.{Traces}
use Rattle.tally.specs.Passes.{walked}
use Rattle.miner.specs.declared.traces.Traces as declared

-- a log's first traces
abbrev pub traces_of : declared.Traces → Traces
traces_of t = walked t.log.now t.count 0

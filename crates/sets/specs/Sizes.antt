-- The greatest sizes (01, "Sizes"; 02, 10/12).
use Rattle.std.specs.Prelude.{ℕ}

-- A
abbrev pub most_activities : ℕ
most_activities = 128

-- T
abbrev pub most_traces : ℕ
most_traces = 1024

-- the length of a trace
abbrev pub longest_trace : ℕ
longest_trace = 512

-- the events of a log
abbrev pub most_events : ℕ
most_events = 32768

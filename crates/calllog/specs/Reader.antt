-- A log reader (01, "Log"): which bytes it stands on, and which trace comes next.
use Rattle.std.specs.Prelude.{List, ℕ}
use Rattle.std.specs.Borrow.{Bor}
use Rattle.calllog.specs.Logs.{asked_of}
use Rattle.calllog.specs.declared.reader.LogReader.{LogReader}

-- trace 0 comes first
abbrev pub opened : Bor (List ℕ) → LogReader
opened log = record { log = log; next = 0 }

-- the reader after it was asked for trace k: over the same bytes
abbrev pub reader_after : LogReader → ℕ → LogReader
reader_after r k = record { log = r.log; next = (asked_of r.log.now r.next k).next }

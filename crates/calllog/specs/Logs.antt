-- What a log file says: its answer, A and the traces; and what the public functions give of it (01, "Log" and "Numbers given back").
use Rattle.std.specs.Prelude.{List, [], ◌∷◌, ℕ, zero, suc, ◌+◌, ltb, length, take, drop}
use Rattle.sets.specs.Tests.{when◌then◌else◌}
use Rattle.sets.specs.Answers.{is_done, then_ask}
use Rattle.sets.specs.declared.answer.Answer.{Answer}
use Rattle.sets.specs.declared.answer.Answer.TheVariants.{Done, NoTrace}
use Rattle.calllog.specs.Layout.{activities_in, traces_in, offset_at, length_at, bodies_start}
use Rattle.calllog.specs.Judged.{judged_log}
use Rattle.calllog.specs.declared.judge.Judged.{Judged}
use Rattle.calllog.specs.declared.trace.Part.{Part}
use Rattle.calllog.specs.declared.trace.Found.{Found}
use Rattle.calllog.specs.declared.trace.Asked.{Asked}

-- ---- the log

pub record Log : Type 0 where
  pub answer : Answer
  pub activities : ℕ
  pub traces : List (List ℕ)

-- where trace k starts: offsets count from the first body byte
abbrev pub start_at : List ℕ → ℕ → ℕ
start_at bytes k = bodies_start bytes + offset_at bytes k

-- trace k, a part of the bytes
abbrev pub trace_at : List ℕ → ℕ → List ℕ
trace_at bytes k = take (length_at bytes k) (drop (start_at bytes k) bytes)

-- n traces from trace k on
unfoldable pub traces_from : List ℕ → ℕ → ℕ → List (List ℕ)
traces_from bytes zero k = []
traces_from bytes (suc n) k = trace_at bytes k ∷ traces_from bytes n (suc k)

-- A and the traces where the bytes are accepted; nothing beside the number where they are refused
unfoldable pub log_of : List ℕ → Log
log_of bytes =
    when is_done (judged_log bytes) then record { answer = Done; activities = activities_in bytes; traces = traces_from bytes (traces_in bytes) 0 }
    else record { answer = judged_log bytes; activities = 0; traces = [] }

-- ---- what the public functions give

-- the answer, A and T
abbrev pub judged_of : List ℕ → Judged
judged_of bytes = record { answer = (log_of bytes).answer; activities = (log_of bytes).activities; traces = length (log_of bytes).traces }

abbrev pub no_part : Part
no_part = record { start = 0; length = 0 }

-- the part that entry k names; nothing where the bytes end before it does
unfoldable pub where_part : List ℕ → ℕ → Part
where_part bytes k =
    when ltb (length bytes) (start_at bytes k + length_at bytes k) then no_part
    else record { start = start_at bytes k; length = length_at bytes k }

-- where trace k stands in the bytes, judged or not; nothing where there is no entry k
unfoldable pub part_of : List ℕ → ℕ → Part
part_of bytes k = when ltb k (traces_in bytes) then where_part bytes k else no_part

-- the bytes of part k, judged or not: of an accepted log trace k
abbrev pub part_at : List ℕ → ℕ → List ℕ
part_at bytes k = take (part_of bytes k).length (drop (part_of bytes k).start bytes)

abbrev pub found_as : Answer → Part → Found
found_as a p = record { answer = a; start = p.start; length = p.length }

-- the refusals of the bytes, then 11
unfoldable pub finding_of : List ℕ → ℕ → Answer
finding_of bytes k = then_ask (judged_log bytes) (when ltb k (traces_in bytes) then Done else NoTrace)

-- trace k: where it stands, or nothing beside the number
unfoldable pub found_of : List ℕ → ℕ → Found
found_of bytes k =
    when is_done (finding_of bytes k) then found_as Done (record { start = start_at bytes k; length = length_at bytes k })
    else found_as (finding_of bytes k) no_part

-- what a reader that remembers `next` gives when asked for trace k, and what it remembers then: k + 1, or the same where it refuses
unfoldable pub asked_of : List ℕ → ℕ → ℕ → Asked
asked_of bytes next k = record { found = found_of bytes k; next = when is_done (finding_of bytes k) then k + 1 else next }

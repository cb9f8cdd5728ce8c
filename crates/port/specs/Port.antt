-- The numbers that the port gives back, and what it leaves in lent memory.
use Rattle.std.specs.Prelude.{Bool, false, List, ℕ, ◌+◌, ◌*◌, ◌%◌, ◌^◌, eqb, ltb, length}
use Rattle.sets.specs.Tests.{non, when◌then◌else◌}
use Rattle.sets.specs.Answers.{number_of, blocker_of, is_done, then_ask}
use Rattle.sets.specs.declared.answer.Answer.{Answer}
use Rattle.sets.specs.declared.answer.Answer.TheVariants.{Done, BufferTooSmall, WrongArgument}
use Rattle.engine.specs.Markings.{empty_marking}
use Rattle.engine.specs.Replay.{replay_of, stepped_of}
use Rattle.engine.specs.declared.step.Stepped.{Stepped}
use Rattle.engine.specs.declared.graph.Graph.{Graph}
use Rattle.octets.specs.Editions.{wide_in}
use Rattle.graphfile.specs.Held.{read_of}
use Rattle.graphfile.specs.Writing.{written_of, file_after}
use Rattle.graphfile.specs.Markings.{marking_length, marking_from, marking_into}
use Rattle.rules.specs.declared.Profile.{Profile}
use Rattle.rules.specs.declared.Profile.TheVariants.{Full, Light}
use Rattle.miner.specs.Mine.{mined_of}
use Rattle.report.specs.Listing.{listed_of}
use Rattle.report.specs.Summary.{summary_answer}

-- a number of 01, and 256 times what goes with it; that has 24 bits
unfoldable pub packed_of : Answer → ℕ → ℕ
packed_of a n = number_of a + 256 * (n % 2 ^ 24)

-- the same, and 2^32 more where accepting
unfoldable pub verdict_of : Answer → ℕ → Bool → ℕ
verdict_of a n accepting = packed_of a n + (when accepting then 2 ^ 32 else 0)

-- what a function gives that can answer 10: the same, and 2^40 times the blocker; 255 beside every other number (02, 2/12)
unfoldable pub blocked_of : Answer → ℕ → Bool → ℕ
blocked_of a n accepting = verdict_of a n accepting + 2 ^ 40 * blocker_of a

-- what mining or reading gave, written as a file where it was done
unfoldable pub put_number : Answer → Graph → ℕ → ℕ
put_number a g space = when is_done a then packed_of (written_of g space).answer (written_of g space).length else packed_of a 0

unfoldable pub put_buffer : Answer → Graph → List ℕ → List ℕ
put_buffer a g buffer = when is_done a then file_after g buffer else buffer

-- the profile as a number: 0 full, 1 light; any other is refused with 12, before the log is read (02, 3/12)
abbrev pub profile_of : ℕ → Profile
profile_of n = when eqb n 0 then Full else Light

unfoldable pub in_profile : ℕ → (Profile → ℕ) → ℕ
in_profile n f = when ltb 1 n then packed_of WrongArgument 0 else f (profile_of n)

unfoldable pub in_profile_buffer : ℕ → (Profile → List ℕ → List ℕ) → List ℕ → List ℕ
in_profile_buffer n f buffer = when ltb 1 n then buffer else f (profile_of n) buffer

-- skelfora_mine
abbrev pub mine_number : List ℕ → ℕ → Profile → ℕ
mine_number log space p = put_number (mined_of log p).answer (mined_of log p).graph space

abbrev pub mine_buffer : List ℕ → Profile → List ℕ → List ℕ
mine_buffer log p buffer = put_buffer (mined_of log p).answer (mined_of log p).graph buffer

-- skelfora_listing: the log's own number, or 7; its buffer is report's `listing_after`
abbrev pub listing_number : List ℕ → ℕ → Profile → ℕ
listing_number log space p = packed_of (listed_of log p space).answer (listed_of log p space).length

-- skelfora_summary: the log's own number, or 7; its buffer is report's `summary_after`
abbrev pub summary_number : List ℕ → ℕ → ℕ
summary_number log space = number_of (summary_answer log space)

-- skelfora_rewrite
abbrev pub rewrite_number : List ℕ → ℕ → ℕ
rewrite_number file space = put_number (read_of file).answer (read_of file).graph space

abbrev pub rewrite_buffer : List ℕ → List ℕ → List ℕ
rewrite_buffer file buffer = put_buffer (read_of file).answer (read_of file).graph buffer

-- skelfora_replay: the file's refusals, then the replay's
unfoldable pub replay_number : List ℕ → List ℕ → ℕ
replay_number file trace =
    when is_done (read_of file).answer then
    blocked_of (replay_of (read_of file).graph trace).answer (replay_of (read_of file).graph trace).place.0
    (replay_of (read_of file).graph trace).accepting
    else blocked_of (read_of file).answer 0 false

abbrev pub refused_step : Answer → Stepped
refused_step a = record { answer = a; marking = empty_marking }

-- a marking's bytes after a step, in the form of its graph's file: as they were where refused
unfoldable pub stored_of : Bool → Stepped → List ℕ → List ℕ
stored_of wide s bytes = when is_done s.answer then marking_into wide s.marking bytes else bytes

-- the number of a step
abbrev pub step_number : Stepped → ℕ
step_number s = blocked_of s.answer 0 false

-- skelfora_step: the file's refusals, then 7 where the marking has too few bytes for the file's form, then what the step gives
unfoldable pub step_of : List ℕ → List ℕ → ℕ → Stepped
step_of file bytes a =
    when non (is_done (read_of file).answer) then refused_step (read_of file).answer
    else when ltb (length bytes) (marking_length (wide_in file)) then refused_step BufferTooSmall
    else stepped_of (read_of file).graph (marking_from (wide_in file) bytes) a

-- the marking's bytes after it: as they were where refused
abbrev pub step_bytes : List ℕ → List ℕ → ℕ → List ℕ
step_bytes file bytes a = stored_of (wide_in file) (step_of file bytes a) bytes

-- skelfora_opening: the file's refusals, then 7 where there are too few bytes for a marking
unfoldable pub opening_answer : List ℕ → ℕ → Answer
opening_answer file room = then_ask (read_of file).answer (when ltb room (marking_length (wide_in file)) then BufferTooSmall else Done)

-- the lent bytes then: the opening marking of the file's graph (02, 6/12), or as they were where refused
unfoldable pub opening_bytes : List ℕ → List ℕ → List ℕ
opening_bytes file bytes =
    when is_done (opening_answer file (length bytes)) then marking_into (wide_in file) (read_of file).graph.head.opening bytes else bytes

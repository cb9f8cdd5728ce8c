-- The listing of a log (01, "The listing").
use Rattle.std.specs.Prelude.{List, [], ◌∷◌, ◌++◌, ℕ, suc, ltb, length, drop}
use Rattle.sets.specs.Tests.{when◌then◌else◌}
use Rattle.sets.specs.Members.{width, digit, mem, count_below}
use Rattle.sets.specs.Answers.{number_of, is_done}
use Rattle.sets.specs.declared.answer.Answer.{Answer}
use Rattle.sets.specs.declared.answer.Answer.TheVariants.{BufferTooSmall}
use Rattle.engine.specs.Relations.{relations_of}
use Rattle.engine.specs.Replay.{replay_of}
use Rattle.engine.specs.declared.graph.Graph.{Graph}
use Rattle.engine.specs.declared.replay.Replayed.{Replayed}
use Rattle.calllog.specs.Logs.{log_of}
use Rattle.rules.specs.declared.Profile.{Profile}
use Rattle.rules.specs.Traces.{Traces}
use Rattle.rules.specs.Mined.{mined_graph}
use Rattle.report.specs.declared.writer.Listed.{Listed}
use Rattle.octets.specs.Editions.{wide_in}
use Rattle.report.specs.Lines.{decimal, line, events_word, traces_word, refused_word, C, R, I, E, T}
use Rattle.report.specs.Pairs.{Pair, pairs_of, pair_count}

-- the first line: the number of events, of pairs in each relation, and of traces
unfoldable pub first_line : Graph → ℕ → List ℕ
first_line g n =
    line
    (events_word ∷ decimal (count_below width (mem g.head.events))
    ∷ C ∷ decimal (pair_count (relations_of g).conditions)
    ∷ R ∷ decimal (pair_count (relations_of g).responses)
    ∷ I ∷ decimal (pair_count (relations_of g).includes)
    ∷ E ∷ decimal (pair_count (relations_of g).excludes)
    ∷ traces_word ∷ decimal n ∷ [])

-- one pair a line, source and target, after the relation's letter
unfoldable pub pair_line : List ℕ → Pair → List ℕ
pair_line letter p = line (letter ∷ decimal p.source ∷ decimal p.target ∷ [])

unfoldable pub pair_lines : List ℕ → List Pair → List ℕ
pair_lines letter [] = []
pair_lines letter (p ∷ ps) = pair_line letter p ++ pair_lines letter ps

-- a trace: its number, its length, the replay's number, and accepting, 1 or 0
unfoldable pub trace_line : ℕ → ℕ → Replayed → List ℕ
trace_line k n r = line (T ∷ decimal k ∷ decimal n ∷ decimal (number_of r.answer) ∷ decimal (digit r.accepting) ∷ [])

-- a line for each trace, from trace k on, by what its replay gives
unfoldable pub trace_lines : (List ℕ → Replayed) → ℕ → Traces → List ℕ
trace_lines replayed k [] = []
trace_lines replayed k (σ ∷ L) = trace_line k (length σ) (replayed σ) ++ trace_lines replayed (suc k) L

-- the pairs of the relations in the order C, R, I, E
unfoldable pub relation_lines : Graph → List ℕ
relation_lines g =
    pair_lines C (pairs_of (relations_of g).conditions)
    ++ pair_lines R (pairs_of (relations_of g).responses)
    ++ pair_lines I (pairs_of (relations_of g).includes)
    ++ pair_lines E (pairs_of (relations_of g).excludes)

-- a graph, and the traces replayed on it
unfoldable pub lines_of : Graph → Traces → List ℕ
lines_of g L = first_line g (length L) ++ relation_lines g ++ trace_lines (replay_of g) 0 L

-- a refusal, of the log or of the arguments: the one line with its number
unfoldable pub refused_line : Answer → List ℕ
refused_line a = line (refused_word ∷ decimal (number_of a) ∷ [])

-- the whole listing, of the graph in the profile (02, 3/12)
unfoldable pub listing_of : List ℕ → Profile → List ℕ
listing_of bytes p =
    when is_done (log_of bytes).answer then lines_of (mined_graph (log_of bytes).activities (log_of bytes).traces p) (log_of bytes).traces
    else refused_line (log_of bytes).answer

-- no listing is longer. With up to 64 activities: 50 bytes for the first line (events 64 C 4096 R 4096 I 4096 E 4096 traces 1024), 8 for each of
-- 4 × 4,096 pairs (C 63 63), 16 for each of 1,024 traces (T 1023 512 10 1): 50 + 131,072 + 16,384
abbrev pub longest_narrow : ℕ
longest_narrow = 147506

-- with up to 128: 55 bytes (events 128 C 16384 R 16384 I 16384 E 16384 traces 1024), 10 for each of 4 × 16,384 pairs (C 127 127), 16 for each of
-- 1,024 traces: 55 + 655,360 + 16,384
abbrev pub longest_wide : ℕ
longest_wide = 671799

-- by the log's edition (02, 10/12)
unfoldable pub longest_listing : List ℕ → ℕ
longest_listing bytes = when wide_in bytes then longest_wide else longest_narrow

-- the line of a refusal has a number of at most two figures: refused 12
abbrev pub longest_refused : ℕ
longest_refused = 11

-- ---- what `write_listing` gives and leaves in a buffer of so many bytes: 7 and no byte changed where a listing might not fit

unfoldable pub listed_of : List ℕ → Profile → ℕ → Listed
listed_of bytes p room =
    when ltb room (longest_listing bytes) then record { answer = BufferTooSmall; length = 0 }
    else record { answer = (log_of bytes).answer; length = length (listing_of bytes p) }

-- the listing, then what was there
unfoldable pub listing_after : List ℕ → Profile → List ℕ → List ℕ
listing_after bytes p buffer =
    when ltb (length buffer) (longest_listing bytes) then buffer else listing_of bytes p ++ drop (length (listing_of bytes p)) buffer

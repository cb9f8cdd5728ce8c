-- The listings of the log L, full (01) and light (02, 3/12), computed from the definition, and the line of a log that is refused. Assumes
-- nothing.
use mathlib.Core.Path.{◌≡◌, refl, sym, ap, ◌∙◌}
use mathlib.Core.List.{List, [], ◌∷◌, ◌++◌}
use Prim.Native.Nat.{ℕ, ◌+◌}
use lib.ListN.{length, get_or}
use Rattle.sets.specs.Tests.{◌and◌, ◌or◌, non}
use Rattle.sets.specs.Members.{bit, bits_of, some_below, every_below, count_below, mem, those}
use Rattle.sets.specs.Rows.{row_at, in_row, list_from, rows_of}
use Rattle.sets.specs.Tables.{table_at, tables_of}
use Rattle.engine.specs.declared.graph.Graph.{Graph}
use Rattle.engine.specs.Steps.{waits, enabled, after, accepting}
use Rattle.engine.specs.Relations.{relations_of}
use Rattle.engine.specs.Replay.{replay_from}
use Rattle.octets.specs.Numbers.{value_of, number_at}
use Rattle.octets.specs.Opens.{opens_with}
use Rattle.octets.specs.Editions.{edition_for, opens_file, beyond}
use Rattle.calllog.specs.Layout.{activities_in, traces_in, offset_at, length_at, bodies_start, events_before}
use Rattle.sets.specs.Answers.{first_refusal}
use Rattle.calllog.specs.Judged.{all_below, judged_head, judged_entry, judged_bodies, judged_contents, judged_log}
use Rattle.calllog.specs.Logs.{traces_from, log_of}
use Rattle.rules.specs.Traces.{◌has◌, ◌begins_with◌, at_each_from, at_some_from, every_trace, some_trace}
use Rattle.rules.specs.Mining.{no_pair, no_relations, smallest_source, ◌without◌, event, some_event, ◌with◌, at_most_once, precedes, answers}
use Rattle.rules.specs.Mining.{chained, together, before, followed, between, alternates, before_first, step1, step2, directly_before, step3}
use Rattle.rules.specs.Mining.{never_together, step4, closes, step5, step6, let_in_between, makes_redundant, step7, reduced, step8, included_after, never_missed, step9}
use Rattle.rules.specs.Mining.{step10, after_five, after_six, after_seven, after_eight, mined}
use Rattle.rules.specs.declared.Profile.{Profile}
use Rattle.rules.specs.declared.Profile.TheVariants.{Full, Light}
use Rattle.rules.specs.Mined.{graph_from, mined_graph}
use Rattle.rules.specs.Replays.{Accepted}
use Rattle.rules.proofs.Acceptable.{acceptable}
use Rattle.rules.proofs.FromFile.{file-accepted}
use Rattle.rules.proofs.Cases.{L, G, light_g}
use Rattle.report.proofs.WholeLaws.{replays-are}
use Rattle.report.specs.Lines.{figures, decimal, line}
use Rattle.report.specs.Pairs.{passing, pairs_from}
use Rattle.report.specs.Listing.{first_line, pair_line, pair_lines, trace_line, trace_lines, relation_lines, lines_of, refused_line}
use Rattle.report.specs.Listing.{listing_of}

-- all bytes of L's file
pub file : List ℕ
file = 66 ∷ 76 ∷ 1 ∷ 3 ∷ 2 ∷ 0 ∷ 0 ∷ 0 ∷ 3 ∷ 0 ∷ 3 ∷ 0 ∷ 2 ∷ 0 ∷ 0 ∷ 1 ∷ 2 ∷ 0 ∷ 2 ∷ []

-- ---- the listing as 01 prints it, byte by byte: 32 is the space, 48 the figure 0, 10 the end of a line

-- a letter and two figures
abbrev three : ℕ → ℕ → ℕ → List ℕ
three x a b = x ∷ 32 ∷ (48 + a) ∷ 32 ∷ (48 + b) ∷ 10 ∷ []

-- a letter and four figures
abbrev five : ℕ → ℕ → ℕ → ℕ → ℕ → List ℕ
five x a b n w = x ∷ 32 ∷ (48 + a) ∷ 32 ∷ (48 + b) ∷ 32 ∷ (48 + n) ∷ 32 ∷ (48 + w) ∷ 10 ∷ []

-- events 3 C 2 R 2 I 1 E n traces 2
first : ℕ → List ℕ
first n =
    101 ∷ 118 ∷ 101 ∷ 110 ∷ 116 ∷ 115 ∷ 32 ∷ 51 ∷ 32
    ∷ 67 ∷ 32 ∷ 50 ∷ 32 ∷ 82 ∷ 32 ∷ 50 ∷ 32 ∷ 73 ∷ 32 ∷ 49 ∷ 32 ∷ 69 ∷ 32 ∷ (48 + n) ∷ 32
    ∷ 116 ∷ 114 ∷ 97 ∷ 99 ∷ 101 ∷ 115 ∷ 32 ∷ 50 ∷ 10 ∷ []

-- a listing, whole, by the number of exclusions and their lines
listing : ℕ → List ℕ → List ℕ
listing n exclusions =
    first n
    -- C
    ++ three 67 0 1
    ++ three 67 0 2
    -- R
    ++ three 82 0 2
    ++ three 82 1 2
    -- I
    ++ three 73 0 1
    -- E
    ++ exclusions
    -- T
    ++ five 84 0 3 0 1
    ++ five 84 1 2 0 1

pub printed : List ℕ
printed = listing 4 (three 69 0 0 ++ three 69 1 1 ++ three 69 2 1 ++ three 69 2 2)

pub printed_light : List ℕ
printed_light = listing 3 (three 69 0 0 ++ three 69 1 1 ++ three 69 2 2)

-- ---- the same from the definition

-- the graphs of L, by their rows
graphs : (mined_graph 3 L Full ≡ G) × (mined_graph 3 L Light ≡ light_g)
unfolding L G light_g
    ◌and◌ ◌or◌ non bit mem those bits_of some_below every_below list_from rows_of tables_of
    ◌has◌ ◌begins_with◌ at_each_from at_some_from every_trace some_trace
    no_pair no_relations smallest_source ◌without◌ event some_event ◌with◌ at_most_once precedes answers chained together before followed between alternates before_first
    step1 step2 directly_before step3 never_together step4 closes step5 step6 let_in_between makes_redundant step7 reduced step8 included_after never_missed step9 step10
    after_five after_six after_seven after_eight mined graph_from mined_graph
graphs = (refl, refl)

-- L is accepted, so its graphs need not be judged at each replay
accepted : Accepted 3 L
unfolding file L
    ◌and◌ ◌or◌ non opens_with opens_file edition_for beyond value_of number_at activities_in traces_in offset_at length_at bodies_start events_before
    first_refusal all_below judged_head judged_entry judged_bodies judged_contents judged_log traces_from log_of
accepted = file-accepted file

lines_by : Graph → List ℕ
lines_by g =
    first_line g (length L) ++ relation_lines g ++ trace_lines (replay_from g.head.events (relations_of g) g.head.opening.state 0) 0 L

once : (p : Profile) → lines_of (mined_graph 3 L p) L ≡ lines_by (mined_graph 3 L p)
unfolding lines_of lines_by
once p =
    let g = mined_graph 3 L p in
    ap (λ (replays : List ℕ). first_line g (length L) ++ relation_lines g ++ replays)
    (sym (replays-are g (acceptable 3 L accepted p) 0 L accepted.lengths))

lines : (lines_by G ≡ printed) × (lines_by light_g ≡ printed_light)
unfolding L G light_g printed printed_light listing first lines_by
    ◌and◌ ◌or◌ non bit mem those bits_of some_below count_below row_at table_at in_row list_from
    waits enabled after accepting replay_from
    figures line passing pairs_from first_line pair_line pair_lines trace_line trace_lines relation_lines
lines = (refl, refl)

read : (p : Profile) → listing_of file p ≡ lines_of (mined_graph 3 L p) L
unfolding file L
    ◌and◌ ◌or◌ non opens_with opens_file edition_for beyond value_of number_at activities_in traces_in offset_at length_at bodies_start events_before
    first_refusal all_below judged_head judged_entry judged_bodies judged_contents judged_log traces_from log_of listing_of
read p = refl

-- THE THEOREM
pub listing-of-L : (listing_of file Full ≡ printed) × (listing_of file Light ≡ printed_light)
listing-of-L = (
  read Full ∙ once Full ∙ ap lines_by graphs.0 ∙ lines.0,
  read Light ∙ once Light ∙ ap lines_by graphs.1 ∙ lines.1,
)

-- refused 1: no bytes at all
pub listing-of-nothing : (p : Profile) → listing_of [] p
    ≡ 114 ∷ 101 ∷ 102 ∷ 117 ∷ 115 ∷ 101 ∷ 100 ∷ 32 ∷ 49 ∷ 10 ∷ []
unfolding judged_head judged_log log_of figures line refused_line listing_of
listing-of-nothing p = refl

-- numbers of one to five figures
pub numbers : decimal 0 ++ decimal 9 ++ decimal 10 ++ decimal 4096 ++ decimal 32768
    ≡ 48 ∷ 57 ∷ 49 ∷ 48 ∷ 52 ∷ 48 ∷ 57 ∷ 54 ∷ 51 ∷ 50 ∷ 55 ∷ 54 ∷ 56 ∷ []
unfolding figures
numbers = refl

-- where L's first line gives the number of conditions, it says 2
pub conditions-counted : get_or (listing_of file Full) 11 0 ≡ 50
unfolding printed listing first
conditions-counted = ap (λ (text : List ℕ). get_or text 11 0) listing-of-L.0

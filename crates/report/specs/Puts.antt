-- What the functions that put text into the lent buffer say. A reader of `write_listing` need not believe this file: its own statement
-- names the bytes of the buffer.
use Rattle.std.specs.Prelude.{◌≡◌, List, [], ◌∷◌, ◌++◌, ℕ, ◌+◌, ◌≤◌, length}
use Rattle.std.proofs.lemmas.List.Edits.{sets}
use Rattle.sets.specs.Members.{width, mem, count_below}
use Rattle.sets.specs.Rows.{no_rows, in_row, rows_of}
use Rattle.sets.specs.Tables.{table_at, with_table}
use Rattle.engine.specs.declared.graph.Head.{Head}
use Rattle.engine.specs.declared.graph.Graph.{Graph}
use Rattle.engine.specs.Relations.{in_tables}
use Rattle.engine.specs.Replay.{replay_from}
use Rattle.calllog.specs.Layout.{traces_in}
use Rattle.tally.specs.Passes.{walked}
use Rattle.sets.specs.Rows.{turned}
use Rattle.report.specs.Lines.{space, line_end, decimal, events_word, traces_word, C, R, I, E, T}
use Rattle.report.specs.Pairs.{pairs_of, pair_count}
use Rattle.report.specs.Summary.{counts_of}
use Rattle.report.specs.Listing.{pair_lines, trace_lines}
use Rattle.report.specs.declared.text.Page.{Page}

-- the text stands from `at` on, all else is as it was, and the next place is the one after it
pub record Put (before : List ℕ) (at : ℕ) (text : List ℕ) (after : List ℕ) (next : ℕ) : Type 0 where
  pub place : next ≡ at + length text
  pub bytes : after ≡ sets before at text

-- the page has room for the text from its place on
abbrev pub Room : Page → List ℕ → Type 0
Room p text = p.at + length text ≤ length p.out.now

-- the text was put into the page, which is of the same buffer
pub record Wrote (p : Page) (text : List ℕ) (q : Page) : Type 0 where
  pub same : q.out.ghost_name ≡ p.out.ghost_name
  pub put : Put p.out.now p.at text q.out.now q.at

-- a word, a space, a number, and the byte after it
unfoldable pub named : List ℕ → ℕ → ℕ → List ℕ
named word n end = word ++ (space ∷ []) ++ (decimal n ++ (end ∷ []))

-- texts one after the other
unfoldable pub three : List ℕ → List ℕ → List ℕ → List ℕ
three u v w = u ++ v ++ w

unfoldable pub four : List ℕ → List ℕ → List ℕ → List ℕ → List ℕ
four u v w x = u ++ v ++ w ++ x

-- the four counts of the first line
abbrev pub counts_text : ℕ → ℕ → ℕ → ℕ → List ℕ
counts_text c r i e = four (named C c space) (named R r space) (named I i space) (named E e space)

-- the same, of the conditions by source and of a graph's other tables
abbrev pub pair_counts : List ℕ → List ℕ → List ℕ
pair_counts listed tables =
    counts_text (pair_count (in_row (table_at listed 0))) (pair_count (in_row (table_at tables 1)))
    (pair_count (in_row (table_at tables 2))) (pair_count (in_row (table_at tables 3)))

-- the first line, by its numbers
abbrev pub heading_text : ℕ → List ℕ → ℕ → List ℕ
heading_text n counts t = three (named events_word n space) counts (named traces_word t line_end)

-- the lines of the four relations, likewise
abbrev pub relations_text : List ℕ → List ℕ → List ℕ
relations_text listed tables =
    four (pair_lines C (pairs_of (in_row (table_at listed 0)))) (pair_lines R (pairs_of (in_row (table_at tables 1))))
    (pair_lines I (pairs_of (in_row (table_at tables 2)))) (pair_lines E (pairs_of (in_row (table_at tables 3))))

-- the line of a trace, by its numbers
abbrev pub trace_text : ℕ → ℕ → ℕ → ℕ → List ℕ
trace_text k n number accepting =
    four (named T k space) (decimal n ++ (space ∷ [])) (decimal number ++ (space ∷ [])) (decimal accepting ++ (line_end ∷ []))

-- the conditions by source
abbrev pub by_source : List ℕ → List ℕ
by_source tables = rows_of (turned (with_table no_rows 0 (table_at tables 0)))

-- the whole listing of a graph and a log's first traces
abbrev pub lines_text : Head → List ℕ → List ℕ → ℕ → List ℕ
lines_text head tables log n =
    three
    (heading_text (count_below width (mem head.events)) (pair_counts (by_source tables) tables) n)
    (relations_text (by_source tables) tables)
    (trace_lines (replay_from head.events (in_tables tables) head.opening.state 0) 0 (walked log n 0))

-- the same, of as many traces as the log's head says
abbrev pub graph_text : Graph → List ℕ → List ℕ
graph_text g log = lines_text g.head g.relations log (traces_in log)

-- the counts of a table's first n rows, and of a graph's conditions and excludes
abbrev pub row_counts : ℕ → List ℕ → ℕ → List ℕ
row_counts n tables table = counts_of n (in_row (table_at tables table))

abbrev pub summary_text : ℕ → List ℕ → List ℕ
summary_text n tables = row_counts n (by_source tables) 0 ++ row_counts n tables 3

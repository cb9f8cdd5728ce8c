-- What the stages of mining put together, from the tally of a log and its events: what the functions of src/mining.rt, src/includes.rt,
-- src/redundant.rt and src/conditions.rt give. That it is the rules' graph is a theorem, so a reader of `mine` need not believe this file.
use Rattle.std.specs.Prelude.{Bool, List, [], ℕ}
use Rattle.sets.specs.Tests.{◌and◌, non}
use Rattle.sets.specs.Members.{width, mem, those, some_below}
use Rattle.sets.specs.Rows.{Relation, no_rows, row_at, in_row, rows_of, rows_for, turned}
use Rattle.sets.specs.Tables.{no_tables, table_at, with_table}
use Rattle.sets.specs.declared.set.Set.{Set}
use Rattle.engine.specs.Markings.{opening_of}
use Rattle.engine.specs.Relations.{relation_count}
use Rattle.engine.specs.Enabled.{graph_at}
use Rattle.engine.specs.declared.graph.Graph.{Graph}
use Rattle.rules.specs.declared.Profile.{Profile}
use Rattle.rules.specs.declared.Profile.TheVariants.{Full, Light}
use Rattle.rules.specs.Traces.{Traces}
use Rattle.rules.specs.Mining.{event}
use Rattle.steps.specs.Rowwise.{unbroken, absent, excluders, in_either, reduced_of, waited}
use Rattle.tally.specs.Passes.{gains, gains_in, forward, through, event_in, cut}
use Rattle.tally.specs.Tallies.{before_table, later_table, unpreceded_table, unanswered_table, unchained_table, unalternated_table, followed_table}
use Rattle.tally.specs.Tallies.{tallied, tallied_for}
use Rattle.miner.specs.Facts.{let_in, reopened, doubted, before_first, missed}

-- conditions and chains by target, responses by source (steps 2 and 3)
abbrev pub conditions_of : Set → List ℕ → List ℕ
conditions_of events tally = rows_for events (unbroken events (table_at tally unpreceded_table))

abbrev pub chains_of : Set → List ℕ → List ℕ
chains_of events tally = rows_for events (unbroken events (table_at tally unchained_table))

abbrev pub responses_of : Set → List ℕ → List ℕ
responses_of events tally = rows_for events (unbroken events (table_at tally unanswered_table))

-- what never directly follows (step 6)
abbrev pub never_of : Set → List ℕ → List ℕ
never_of events tally = rows_for events (absent events (table_at tally followed_table))

-- the excludes after steps 1 to 5
abbrev pub five_from : Set → List ℕ → List ℕ → List ℕ
five_from events tally chains = rows_of (turned
    (rows_for events (excluders events (table_at tally before_table) (table_at tally later_table) chains)))

abbrev pub five_of : Set → List ℕ → List ℕ
five_of events tally = five_from events tally (chains_of events tally)

-- the includes of steps 3 and 6, from the chains by target and what never directly follows
abbrev pub includes_from : List ℕ → List ℕ → Traces → List ℕ
includes_from chains never L = through (λ r σ. forward (gains (let_in never)) r [] σ) (rows_of (turned chains)) L

-- includes and excludes after step 6, which the light profile skips
abbrev pub includes_six : Profile → Set → List ℕ → Traces → List ℕ
includes_six Full events tally L = includes_from (chains_of events tally) (never_of events tally) L
includes_six Light events tally L = rows_of (turned (chains_of events tally))

abbrev pub excludes_six : Profile → Set → List ℕ → List ℕ
excludes_six Full events tally = rows_for events (in_either (five_of events tally) (never_of events tally))
excludes_six Light events tally = five_of events tally

-- row u: the events that u alternately precedes (step 7)
abbrev pub followers_of : Set → List ℕ → List ℕ
followers_of events tally = rows_of (turned (rows_for events (absent events (table_at tally unalternated_table))))

-- u makes "s excludes x" redundant: u excludes x and does not include it, alternately precedes s, and nothing lets x in between them. The log
-- is asked that only where it is in doubt
unfoldable pub redundant_by : List ℕ → List ℕ → List ℕ → List ℕ → Traces → ℕ → Relation
redundant_by tally followers includes excludes L u s x =
    in_row excludes u x and non (in_row includes u x) and in_row followers u s
    and non (doubted (table_at tally before_table) includes (row_at (table_at tally later_table) u) s x and reopened includes u L s x)

-- the excludes after step 7, from the includes and excludes that it begins with
abbrev pub seven_from : Set → List ℕ → List ℕ → List ℕ → Traces → List ℕ
seven_from events tally includes excludes L =
    rows_of (λ s x. in_row excludes s x
    and non (some_below width (λ u. mem events u and redundant_by tally (followers_of events tally) includes excludes L u s x)))

-- the conditions of steps 9 and 10, from those after step 8
abbrev pub waited_of : Set → List ℕ → List ℕ → List ℕ → Traces → List ℕ
waited_of events eight includes excludes L =
    rows_for events
    (reduced_of
    (rows_for events
    (waited events eight (through (λ r σ. forward (gains before_first) r [] σ) no_rows L)
    (through (λ r σ. forward (gains (missed events includes excludes)) r [] σ) no_rows L))))

-- four relations' rows, put into the tables of a graph
abbrev pub four_tables : List ℕ → List ℕ → List ℕ → List ℕ → List ℕ
four_tables c r i x = with_table (with_table (with_table (with_table (no_tables relation_count) 0 c) 1 r) 2 i) 3 x

-- the tables after step 10, from the events, the tally, the traces, and the includes and excludes after step 6
abbrev pub tables_after_six : Traces → Set → List ℕ → List ℕ → List ℕ → List ℕ
tables_after_six L events tally includes six =
    four_tables
    (waited_of events (rows_for events (reduced_of (conditions_of events tally))) includes (seven_from events tally includes six L) L)
    (rows_for events (reduced_of (responses_of events tally)))
    includes
    (seven_from events tally includes six L)

abbrev pub tables_read : Traces → Set → List ℕ → Profile → List ℕ
tables_read L events tally p = tables_after_six L events tally (includes_six p events tally L) (excludes_six p events tally)

-- ---- the same in a form

-- the includes after step 6, what is let in as far as the form holds it
abbrev pub let_in_of : Bool → List ℕ → List ℕ → Traces → List ℕ
let_in_of wide never rows L = through (λ r σ. forward (gains (cut wide (let_in never))) r [] σ) rows L

abbrev pub includes_in : Bool → Profile → Set → List ℕ → Traces → List ℕ
includes_in wide Full events tally L = let_in_of wide (never_of events tally) (rows_of (turned (chains_of events tally))) L
includes_in wide Light events tally L = rows_of (turned (chains_of events tally))

-- what step 9's replay puts into rows
abbrev pub ahead_of : Bool → List ℕ → Traces → List ℕ
ahead_of wide rows L = through (λ r σ. forward (gains_in wide before_first) r [] σ) rows L

abbrev pub missed_of : Bool → Set → List ℕ → List ℕ → List ℕ → Traces → List ℕ
missed_of wide events includes excludes rows L = through (λ r σ. forward (gains_in wide (missed events includes excludes)) r [] σ) rows L

abbrev pub waited_in : Bool → Set → List ℕ → List ℕ → List ℕ → Traces → List ℕ
waited_in wide events eight includes excludes L =
    rows_for events (reduced_of (rows_for events (waited events eight (ahead_of wide no_rows L) (missed_of wide events includes excludes no_rows L))))

-- the tables after step 8
abbrev pub eight_in : Bool → Profile → Set → List ℕ → Traces → List ℕ
eight_in wide p events tally L =
    four_tables
    (rows_for events (reduced_of (conditions_of events tally)))
    (rows_for events (reduced_of (responses_of events tally)))
    (includes_in wide p events tally L)
    (seven_from events tally (includes_in wide p events tally L) (excludes_six p events tally) L)

-- the tables after step 10
abbrev pub tables_in : Bool → Traces → Set → List ℕ → Profile → List ℕ
tables_in wide L events tally p =
    four_tables
    (waited_in wide events (rows_for events (reduced_of (conditions_of events tally))) (includes_in wide p events tally L)
    (seven_from events tally (includes_in wide p events tally L) (excludes_six p events tally) L) L)
    (rows_for events (reduced_of (responses_of events tally)))
    (includes_in wide p events tally L)
    (seven_from events tally (includes_in wide p events tally L) (excludes_six p events tally) L)

-- the graph, from the traces, by a tally in a form and the events that the form holds
unfoldable pub graph_found_in : Bool → ℕ → Traces → Profile → Graph
graph_found_in wide A L p =
    graph_at A (those (event_in wide L)) (opening_of (those (event_in wide L))) (tables_in wide L (those (event_in wide L)) (tallied_for wide L) p)

-- the same over the whole width
unfoldable pub graph_found : ℕ → Traces → Profile → Graph
graph_found A L p = graph_at A (those (event L)) (opening_of (those (event L))) (tables_read L (those (event L)) (tallied L) p)

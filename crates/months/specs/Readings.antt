-- The relations after step 8 as they are read from a tally, whatever its bytes are (02, 12/12: "other bytes are joined and read by the same
-- rules"): by the miner's stages, where what a trace would be asked in steps 6 and 7 is asked of the sets of the pairs. That on the tally of
-- some traces they are the rules' relations after step 8 is a theorem, so who reads tallies filled from logs and their joins need not
-- believe this file.
use Rattle.std.specs.Prelude.{List, ℕ, ltb}
use Rattle.sets.specs.Tests.{◌and◌, ◌or◌, non}
use Rattle.sets.specs.Members.{width, mem, some_below}
use Rattle.sets.specs.Rows.{Relation, in_row, rows_of, rows_for, turned}
use Rattle.sets.specs.Tables.{table_at, tables_of}
use Rattle.sets.specs.declared.set.Set.{Set}
use Rattle.rules.specs.declared.Profile.{Profile}
use Rattle.rules.specs.declared.Profile.TheVariants.{Full, Light}
use Rattle.steps.specs.Rowwise.{absent, reduced_of}
use Rattle.tally.specs.Tallies.{table_count, unalternated_table}
use Rattle.miner.specs.Stages.{conditions_of, responses_of, chains_of, never_of, excludes_six, four_tables}
use Rattle.months.specs.Layout.{tally_width, row_set, pair_set, set_in}

-- the tables of the mining tally; it has no rows past its width
abbrev pub tables_in : List ℕ → List ℕ
tables_in tally = tables_of table_count (λ k a x. ltb a tally_width and mem (set_in tally (row_set k a)) x)

-- what stands between a u and a later s
abbrev pub between_in : List ℕ → ℕ → ℕ → Set
between_in tally u s = set_in tally (pair_set u s)

-- row t: what t never directly follows (step 6)
abbrev pub unfollowing : Set → List ℕ → List ℕ
unfollowing events tables = rows_of (turned (never_of events tables))

-- row t: the events that include t after step 6: by its chains, and what stands between an s that t never directly follows and a later t
unfoldable pub includers : Set → List ℕ → List ℕ → (ℕ → ℕ → Set) → Relation
includers events chains never between t u =
    mem events u and (in_row chains t u or some_below width (λ s. in_row never t s and mem (between s t) u))

-- the includes after step 6, which the light profile skips
abbrev pub includes_in : Profile → Set → List ℕ → (ℕ → ℕ → Set) → List ℕ
includes_in Full events tables between =
    rows_of (turned (rows_for events (includers events (chains_of events tables) (unfollowing events tables) between)))
includes_in Light events tables between = rows_of (turned (chains_of events tables))

-- row s: the events that alternately precede s (step 7)
abbrev pub alternating : Set → List ℕ → List ℕ
alternating events tables = rows_for events (absent events (table_at tables unalternated_table))

-- u makes "s excludes x" redundant, if it alternately precedes s: it excludes x, does not include it, and nothing between a u and a later s does
unfoldable pub redundant_by : List ℕ → List ℕ → (ℕ → ℕ → Set) → ℕ → Relation
redundant_by includes excludes between u s x =
    in_row excludes u x and non (in_row includes u x) and non (some_below width (λ v. mem (between u s) v and in_row includes v x))

-- row s: what s still excludes after step 7
unfoldable pub excluded : List ℕ → List ℕ → List ℕ → (ℕ → ℕ → Set) → Relation
excluded alternating includes excludes between s x =
    in_row excludes s x and non (some_below width (λ u. in_row alternating s u and redundant_by includes excludes between u s x))

abbrev pub excludes_from : Set → List ℕ → List ℕ → List ℕ → (ℕ → ℕ → Set) → List ℕ
excludes_from events tables includes excludes between = rows_for events (excluded (alternating events tables) includes excludes between)

-- the four relations after step 8, in the tables of a graph
abbrev pub relations_from : Set → List ℕ → (ℕ → ℕ → Set) → Profile → List ℕ
relations_from events tables between p =
    four_tables
    (rows_for events (reduced_of (conditions_of events tables)))
    (rows_for events (reduced_of (responses_of events tables)))
    (includes_in p events tables between)
    (excludes_from events tables (includes_in p events tables between) (excludes_six p events tables) between)

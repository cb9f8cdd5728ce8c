-- Worked examples of the source paper (document 002), computed: its Table 3, and the graph a, b, c, d of the example that
-- stands after Definition 3, at the end of its section 3. Assumes nothing.
use mathlib.Core.Path.{◌≡◌, refl}
use mathlib.Core.Bool.{Bool, true, false}
use mathlib.Core.List.{List, [], ◌∷◌}
use Prim.Native.Nat.{ℕ}
use lib.Dec.{eqb, lit≤}
use lib.ListN.{get_or}
use Rattle.sets.specs.Tests.{◌and◌, ◌or◌, non}
use Rattle.sets.specs.Members.{bit, bits_of, some_below, least_below, every_below, is_empty, within, mem, those}
use Rattle.sets.specs.Rows.{row_at, in_row}
use Rattle.sets.specs.Tables.{no_tables, table_at, with_row_in}
use Rattle.sets.specs.declared.set.Set.{Set}
use Rattle.sets.specs.declared.answer.Answer.{Answer}
use Rattle.sets.specs.declared.answer.Answer.TheVariants.{Done, NotIncluded, Waiting}
use Rattle.engine.specs.declared.marking.State.{State}
use Rattle.engine.specs.declared.graph.Graph.{Graph}
use Rattle.engine.specs.Markings.{state_of}
use Rattle.engine.specs.Relations.{relation_count, relations_of}
use Rattle.engine.specs.Steps.{waits, blocker, enabled, after, accepting}
use Rattle.engine.specs.Judged.{state_within, row_within, rows_within, relations_within, graph_within, judged}
use Rattle.engine.specs.Replay.{stepped_of, ending, replay_from, replay_of}
use Rattle.engine.specs.Enabled.{marked, graph_at}
use Rattle.engine.proofs.Acceptable.{judged-at, opening-kept, stepped-judged, replay-judged}

-- a set that is printed as a row of digits, read from the left: digit a is 1 where a is a member
abbrev pub printed : List ℕ → Set
printed ds = those (λ a. eqb (get_or ds a 0) 1)

-- ---- Table 3

abbrev pub table3-before : State
table3-before =
    state_of
    (printed (1 ∷ 0 ∷ 0 ∷ 0 ∷ 0 ∷ 0 ∷ 0 ∷ 0 ∷ []))
    (printed (0 ∷ 1 ∷ 0 ∷ 0 ∷ 1 ∷ 0 ∷ 0 ∷ 0 ∷ []))
    (printed (0 ∷ 1 ∷ 0 ∷ 0 ∷ 1 ∷ 0 ∷ 0 ∷ 1 ∷ []))

-- the table prints 01101001 for included at the end, against its own operations: event 4 has excluded 7
abbrev pub table3-after : State
table3-after =
    state_of
    (printed (1 ∷ 0 ∷ 0 ∷ 0 ∷ 1 ∷ 0 ∷ 0 ∷ 0 ∷ []))
    (printed (0 ∷ 1 ∷ 1 ∷ 0 ∷ 0 ∷ 0 ∷ 0 ∷ 0 ∷ []))
    (printed (0 ∷ 1 ∷ 1 ∷ 0 ∷ 1 ∷ 0 ∷ 0 ∷ 0 ∷ []))

-- event 4 has response 2, include 2 and exclude 7
abbrev pub table3 : Graph
table3 =
    let all = printed (1 ∷ 1 ∷ 1 ∷ 1 ∷ 1 ∷ 1 ∷ 1 ∷ 1 ∷ []) in
    graph_at 8 all table3-before
    (with_row_in
    (with_row_in
    (with_row_in (no_tables relation_count) 1 4 (printed (0 ∷ 0 ∷ 1 ∷ 0 ∷ 0 ∷ 0 ∷ 0 ∷ 0 ∷ [])))
    2 4 (printed (0 ∷ 0 ∷ 1 ∷ 0 ∷ 0 ∷ 0 ∷ 0 ∷ 0 ∷ [])))
    3 4 (printed (0 ∷ 0 ∷ 0 ∷ 0 ∷ 0 ∷ 0 ∷ 0 ∷ 1 ∷ [])))

-- ---- the graph a, b, c, d: activities 0, 1, 2, 3

abbrev pub abcd : ℕ → ℕ → ℕ → ℕ → Set
abcd a b c d = printed (a ∷ b ∷ c ∷ d ∷ [])

abbrev conditions : List ℕ
conditions = with_row_in (with_row_in (no_tables relation_count) 0 0 (abcd 0 1 0 0)) 0 1 (abcd 1 0 0 0)

-- a is pending, b is not included; conditions and responses between a and b both ways, c includes b, d excludes b and d
abbrev pub paper : Graph
paper =
    graph_at 4 (abcd 1 1 1 1) (state_of (abcd 0 0 0 0) (abcd 1 0 0 0) (abcd 1 0 1 1))
    (with_row_in
    (with_row_in
    (with_row_in (with_row_in conditions 1 0 (abcd 0 1 0 0)) 1 1 (abcd 1 0 0 0))
    2 2 (abcd 0 1 0 0))
    3 3 (abcd 0 1 0 1))

-- after c, d, c: a and b wait for each other, and d is not included
abbrev pub locked : State
locked = state_of (abcd 0 0 1 1) (abcd 1 0 0 0) (abcd 1 1 1 0)

pub table-judged : judged table3 ≡ Done
unfolding graph_within relations_within rows_within row_within state_within within is_empty every_below
    bits_of bit mem those ◌and◌ ◌or◌ non row_at table_at with_row_in
table-judged = judged-at 8 table3.head.events table3-before table3.relations refl refl

paper-judged : judged paper ≡ Done
unfolding graph_within relations_within rows_within row_within state_within within is_empty every_below
    bits_of bit mem those ◌and◌ ◌or◌ non row_at table_at with_row_in
paper-judged = judged-at 4 paper.head.events paper.head.opening.state paper.relations refl refl

-- 10, blocked by b
abbrev pub waiting_for : ℕ → Answer
waiting_for b = Waiting (record { 0 = b })

abbrev pub run : List ℕ → Answer → ℕ → State → Bool → Type 0
run trace a i s accepts = replay_of paper trace ≡ ending a i (marked paper.head.events (relations_of paper) s) accepts

pub examples :
    (stepped_of table3 table3.head.opening 4
    ≡ record { answer = Done; marking = marked table3.head.events (relations_of table3) table3-after })
    × run [] Done 0 paper.head.opening.state false
    × run (0 ∷ []) Done 1 (state_of (abcd 1 0 0 0) (abcd 0 1 0 0) (abcd 1 0 1 1)) true
    × run (0 ∷ 2 ∷ 1 ∷ 3 ∷ 0 ∷ []) Done 5 (state_of (abcd 1 1 1 1) (abcd 0 1 0 0) (abcd 1 0 1 0)) true
    × run (2 ∷ 3 ∷ 2 ∷ []) Done 3 locked false
    × run (2 ∷ 3 ∷ 2 ∷ 0 ∷ []) (waiting_for 1) 3 locked false
    × run (2 ∷ 3 ∷ 2 ∷ 1 ∷ []) (waiting_for 0) 3 locked false
    × run (2 ∷ 3 ∷ 2 ∷ 3 ∷ []) NotIncluded 3 locked false
unfolding replay_from enabled waits blocker after accepting some_below least_below bits_of bit mem those ◌and◌ ◌or◌ non row_at table_at with_row_in in_row
examples =
    let on = paper-judged in (
      stepped-judged table3 table-judged table3.head.opening (opening-kept table3 table-judged) 4,
      replay-judged paper on _ (lit≤ tt),
      replay-judged paper on _ (lit≤ tt),
      replay-judged paper on _ (lit≤ tt),
      replay-judged paper on _ (lit≤ tt),
      replay-judged paper on _ (lit≤ tt),
      replay-judged paper on _ (lit≤ tt),
      replay-judged paper on _ (lit≤ tt),
    )

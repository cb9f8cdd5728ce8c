-- What the passes over a trace do to rows and to tables of rows: the words of the contracts of src/passes.rt, and of the miner's own
-- passes. That they are the rules' answers is a theorem, so a reader of `mine` need not believe this file.
use Rattle.std.specs.Prelude.{◌≡◌, Bool, ℕ, zero, suc, ◌/◌, ◌≤◌, eqb, ltb, length, get_or, take}
use mathlib.Core.List.{List, [], ◌∷◌, reverse_aux}
use Rattle.sets.specs.Tests.{◌and◌, ◌or◌, non, when◌then◌else◌}
use Rattle.sets.specs.Members.{word, mem, those, some_below}
use Rattle.sets.specs.Rows.{Relation, row_at, with_row, rows_of}
use Rattle.sets.specs.Tables.{table_at, with_row_in}
use Rattle.sets.specs.declared.set.Set.{Set}
use Rattle.calllog.specs.Logs.{part_at}
use Rattle.rules.specs.Traces.{Traces, ◌has◌, ◌begins_with◌, at_some, some_trace}

-- whether a place, by its activity, past and rest, puts x into the row of its activity
abbrev pub Fact : Type 0
Fact = ℕ → List ℕ → List ℕ → ℕ → Bool

-- what a place, by its activity, past and rest, does to the numbers that a pass keeps
abbrev pub Turn : Type 0
Turn = List ℕ → ℕ → List ℕ → List ℕ → List ℕ

-- row e gains what passes
unfoldable pub gained : List ℕ → ℕ → (ℕ → Bool) → List ℕ
gained rows e p = with_row rows e (those (λ x. mem (row_at rows e) x or p x))

-- row e of table k gains what passes
unfoldable pub noted_in : List ℕ → ℕ → ℕ → (ℕ → Bool) → List ℕ
noted_in tables k e p = with_row_in tables k e (those (λ x. mem (row_at (table_at tables k) e) x or p x))

-- the row of e gains what the place puts into it
unfoldable pub gains : Fact → Turn
gains p rows e past rest = gained rows e (p e past rest)

-- place by place, from the first to the last
unfoldable pub forward : Turn → List ℕ → List ℕ → List ℕ → List ℕ
forward turn kept past [] = kept
forward turn kept past (e ∷ rest) = forward turn (turn kept e past rest) (e ∷ past) rest

-- place by place, from the last to the first
unfoldable pub backward : Turn → List ℕ → List ℕ → List ℕ → List ℕ
backward turn kept past [] = kept
backward turn kept past (e ∷ rest) = turn (backward turn kept (e ∷ past) rest) e past rest

-- a pass over each trace of a log, in turn
unfoldable pub through : (List ℕ → List ℕ → List ℕ) → List ℕ → Traces → List ℕ
through pass kept [] = kept
through pass kept (σ ∷ L) = through pass (pass kept σ) L

-- n parts of a log's bytes, from part k on: of an accepted log its traces
unfoldable pub walked : List ℕ → ℕ → ℕ → Traces
walked bytes zero k = []
walked bytes (suc n) k = part_at bytes k ∷ walked bytes n (suc k)

-- ---- the facts of the passes, each of a place with the activity e

-- x stands before the place
unfoldable pub is_earlier : Fact
is_earlier e past rest x = past has x

-- x does not stand before the place
unfoldable pub not_earlier : Fact
not_earlier e past rest x = non (past has x)

-- x does not stand directly before the place
unfoldable pub not_directly : Fact
not_directly e past rest x = non (past begins_with x)

-- x does not stand between the place and the e before it, or the trace's start
unfoldable pub not_since : Fact
not_since e past rest x = non (at_some x (λ nearer farther. non (nearer has e)) past)

-- x stands after the place
unfoldable pub is_later : Fact
is_later e past rest x = rest has x

-- x does not stand after the place
unfoldable pub not_later : Fact
not_later e past rest x = non (rest has x)

-- x stands directly after the place
unfoldable pub is_next : Fact
is_next e past rest x = rest begins_with x

-- ---- forms: a pass over a log of few activities keeps one word of each set

-- a set of this form can hold x
unfoldable pub reaches : Bool → ℕ → Bool
reaches wide x = wide or ltb x word

-- x is an event of the traces that the form can hold
unfoldable pub event_in : Bool → Traces → ℕ → Bool
event_in wide L x = reaches wide x and some_trace L (λ σ. σ has x)

-- the fact, of what the form can hold
unfoldable pub cut : Bool → Fact → Fact
cut wide p e past rest x = reaches wide x and p e past rest x

-- row e gains what passes, where the form can hold e
unfoldable pub gained_for : Bool → List ℕ → ℕ → (ℕ → Bool) → List ℕ
gained_for wide rows e p = when reaches wide e then gained rows e p else rows

-- the row of e gains what the place puts into it, as far as the form can hold either
unfoldable pub gains_in : Bool → Fact → Turn
gains_in wide p rows e past rest = gained_for wide rows e (cut wide p e past rest)

-- ---- a look back

-- x stands in block j: at one of the eight places from 8 j on
unfoldable pub in_block : List ℕ → Relation
in_block past j x = some_below (length past) (λ p. eqb (p / 8) j and eqb x (get_or past p 0))

-- the rows of blocks know what stands in each of them
abbrev pub Knows : List ℕ → List ℕ → Type 0
Knows blocks past = blocks ≡ rows_of (in_block past)

-- a look back for what is wanted since the last e has come to place n: there it looks for what is left
abbrev pub PassedTo : List ℕ → ℕ → Set → Set → ℕ → Type 0
PassedTo past e wanted left n = (n ≤ length past) × (those (λ x. mem left x and not_since e (reverse_aux (take n past) []) [] x)
    ≡ those (λ x. mem wanted x and not_since e (reverse_aux past []) [] x))

-- What the pass over a trace puts into the sets of the pairs: the words of the contracts of src/pairs.rt. That it is what stands between a u and
-- a later s is a theorem, so a reader of `fill` need not believe this file.
use Rattle.std.specs.Prelude.{◌≡◌, Bool, false, ℕ, ◌+◌, ◌-◌, ◌/◌, ◌%◌, ◌≤◌, ◌<◌, eqb, ltb, length, get_or, take, set}
use mathlib.Core.List.{List, [], ◌∷◌, ◌++◌, reverse_aux}
use Rattle.sets.specs.Tests.{◌and◌, ◌or◌, non, when◌then◌else◌}
use Rattle.sets.specs.Members.{mem, those, no_set}
use Rattle.sets.specs.Rows.{row_words, row_at, with_row, in_row}
use Rattle.sets.specs.Tables.{table_at}
use Rattle.sets.specs.declared.set.Set.{Set}
use Rattle.rules.specs.Traces.{◌has◌}
use Rattle.months.specs.declared.pairs.Seen.{Seen}
use Rattle.months.specs.Layout.{tally_width, set_count, first_row, rows_end, first_pair, sets_from}

-- a test of u, s and v, whether v is in the set of u and s
abbrev pub Pairs : Type 0
Pairs = ℕ → ℕ → ℕ → Bool

-- the sets before the pairs, and those of the pairs
unfoldable pub over : (ℕ → Set) → Pairs → ℕ → Set
over base p w = when ltb w first_pair then base w else those (p ((w - first_pair) / tally_width) ((w - first_pair) % tally_width))

-- all of them as bytes, and what stands after them
unfoldable pub packed : (ℕ → Set) → Pairs → List ℕ → List ℕ
packed base p tail = sets_from set_count 0 (over base p) ++ tail

-- the pairs have gained those that pass, whatever they were
abbrev pub Gained : List ℕ → Pairs → List ℕ → Type 0
Gained tally more tally' =
    (base : ℕ → Set) (p : Pairs) (tail : List ℕ) → tally ≡ packed base p tail → tally' ≡ packed base (λ u s v. p u s v or more u s v) tail

-- v stands in the past, with a u before it
unfoldable pub since_in : List ℕ → ℕ → ℕ → Bool
since_in [] u v = false
since_in (y ∷ past) u v = since_in past u v or past has u and eqb v y

-- set w before any trace is asked for its pairs: the events, the rows of the tables, and else the empty set
unfoldable pub initial_of : Set → List ℕ → ℕ → Set
initial_of events tables w =
    when ltb w 1 then no_set
    else when ltb w first_row then events
    else when ltb w rows_end then those (in_row (table_at tables ((w - first_row) / tally_width)) ((w - first_row) % tally_width))
    else no_set

-- ---- what is kept of the first places

-- the first i numbers of a list, the latest first
abbrev pub back_to : List ℕ → ℕ → List ℕ
back_to l i = reverse_aux (take i l) []

-- there is room for all of them, and they are activities of a tally's width
abbrev pub Kept : List ℕ → List ℕ → ℕ → Type 0
Kept firsts gaps count =
    (count ≤ tally_width) × (length firsts ≡ tally_width) × (length gaps ≡ row_words) × ((j : ℕ) → j < count → get_or firsts j 0 < tally_width)

-- from the latest first place back: v is in the gap after the first place of u, or in a later one. Row j of the gaps is the gap after first
-- place j, and as many first places come before it
unfoldable pub walk_back : List ℕ → List ℕ → (ℕ → Bool) → ℕ → ℕ → Bool
walk_back [] gaps since u v = false
walk_back (x ∷ firsts) gaps since u v =
    eqb u x and (since v or in_row gaps (length firsts) v) or walk_back firsts gaps (λ y. since y or in_row gaps (length firsts) y) u v

-- the latest gap has gained e
unfoldable pub widened : List ℕ → ℕ → ℕ → List ℕ
widened gaps count e =
    when ltb 0 count then with_row gaps (count - 1) (those (λ x. mem (row_at gaps (count - 1)) x or mem (those (λ b. eqb b e)) x)) else gaps

unfoldable pub with_first : List ℕ → ℕ → ℕ → List ℕ
with_first firsts count e = when ltb count tally_width then set firsts count e else firsts

-- e was not seen, and is an activity of a tally's width
abbrev pub is_new : Seen → ℕ → Bool
is_new seen e = non (mem seen.set e) and ltb e tally_width

unfoldable pub seen_with : Seen → ℕ → Seen
seen_with seen e =
    when is_new seen e then record { set = those (λ x. mem seen.set x or eqb x e); count = seen.count + 1 } else seen

unfoldable pub firsts_with : List ℕ → Seen → ℕ → List ℕ
firsts_with firsts seen e = when is_new seen e then with_first firsts seen.count e else firsts

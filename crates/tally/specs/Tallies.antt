-- The tally: seven tables of rows, one after another. A table keeps what was seen, or what breaks a rule, over all activities of the width,
-- so all of it only grows, and the tallies of two logs join by union. That each table is the answer to a question of the rules is a
-- theorem, so a reader of `mine` need not believe this file.
use Rattle.std.specs.Prelude.{Bool, ℕ}
use mathlib.Core.List.{List, [], reverse_aux}
use Rattle.sets.specs.Tests.{◌and◌, non, when◌then◌else◌}
use Rattle.sets.specs.Members.{mem}
use Rattle.sets.specs.Tables.{no_tables}
use Rattle.sets.specs.declared.set.Set.{Set}
use Rattle.rules.specs.Traces.{Traces}
use Rattle.tally.specs.Passes.{Turn, noted_in, forward, backward, through, is_earlier, not_earlier, not_directly, not_since, is_later}
use Rattle.tally.specs.Passes.{not_later, is_next, reaches, cut}

abbrev pub table_count : ℕ
table_count = 7

-- row t: what stands before some t
abbrev pub before_table : ℕ
before_table = 0

-- row s: what stands after some s
abbrev pub later_table : ℕ
later_table = 1

-- row t: what some t does not have before it
abbrev pub unpreceded_table : ℕ
unpreceded_table = 2

-- row s: what some s does not have after it
abbrev pub unanswered_table : ℕ
unanswered_table = 3

-- row t: what some t does not have directly before it
abbrev pub unchained_table : ℕ
unchained_table = 4

-- row s: what does not stand between some s and the s before it, or its trace's start
abbrev pub unalternated_table : ℕ
unalternated_table = 5

-- row s: what directly follows some s
abbrev pub followed_table : ℕ
followed_table = 6

-- what a place puts down of its past
unfoldable pub note_past : Turn
note_past tally e past rest =
    noted_in
    (noted_in (noted_in (noted_in tally before_table e (is_earlier e past rest)) unpreceded_table e (not_earlier e past rest))
    unchained_table e (not_directly e past rest))
    unalternated_table e (not_since e past rest)

-- of its rest
unfoldable pub note_rest : Turn
note_rest tally e past rest =
    noted_in (noted_in (noted_in tally later_table e (is_later e past rest)) unanswered_table e (not_later e past rest))
    followed_table e (is_next e past rest)

-- the tally after one trace more
unfoldable pub noted : List ℕ → List ℕ → List ℕ
noted tally σ = backward note_rest (forward note_past tally [] σ) [] σ

-- the tally of a log
abbrev pub tallied : Traces → List ℕ
tallied L = through noted (no_tables table_count) L

-- ---- the same in a form: in the narrow one the rows and columns from 64 on are left as they are. That the stages ask a tally at events alone
-- is a theorem of the miner (AtEvents)

unfoldable pub note_past_in : Bool → Turn
note_past_in wide tally e past rest =
    when reaches wide e then
    noted_in
    (noted_in (noted_in (noted_in tally before_table e (cut wide is_earlier e past rest)) unpreceded_table e (cut wide not_earlier e past rest))
    unchained_table e (cut wide not_directly e past rest))
    unalternated_table e (cut wide not_since e past rest)
    else tally

unfoldable pub note_rest_in : Bool → Turn
note_rest_in wide tally e past rest =
    when reaches wide e then
    noted_in (noted_in (noted_in tally later_table e (cut wide is_later e past rest)) unanswered_table e (cut wide not_later e past rest))
    followed_table e (cut wide is_next e past rest)
    else tally

unfoldable pub noted_for : Bool → List ℕ → List ℕ → List ℕ
noted_for wide tally σ = backward (note_rest_in wide) (forward (note_past_in wide) tally [] σ) [] σ

abbrev pub tallied_for : Bool → Traces → List ℕ
tallied_for wide L = through (noted_for wide) (no_tables table_count) L

-- ---- the same by sets: `seen` stands before the place, as far as the form holds it, `last` directly before it

unfoldable pub past_by : Bool → List ℕ → ℕ → Set → Set → List ℕ
past_by wide tally e seen last =
    noted_in (noted_in (noted_in tally before_table e (λ x. reaches wide x and mem seen x)) unpreceded_table e (λ x. reaches wide x and non (mem seen x)))
    unchained_table e (λ x. reaches wide x and non (mem last x))

-- where an e was seen, by a look back
unfoldable pub since_by : Bool → List ℕ → ℕ → List ℕ → Set → List ℕ
since_by wide tally e past seen =
    noted_in tally unalternated_table e
    (λ x. reaches wide x and (when mem seen e then not_since e (reverse_aux past []) [] x else non (mem seen x)))

-- both, of a place that the form holds
unfoldable pub place_by : Bool → List ℕ → ℕ → List ℕ → Set → Set → List ℕ
place_by wide tally e past seen last = when reaches wide e then since_by wide (past_by wide tally e seen last) e past seen else tally

-- `after` stands after the place, `next` directly after it
unfoldable pub rest_by : Bool → List ℕ → ℕ → Set → Set → List ℕ
rest_by wide tally e after next =
    when reaches wide e then
    noted_in (noted_in (noted_in tally later_table e (λ x. reaches wide x and mem after x)) unanswered_table e (λ x. reaches wide x and non (mem after x)))
    followed_table e (λ x. reaches wide x and mem next x)
    else tally

-- What the parts of the search give. Nothing of the promise stands here: `finish_of` does not speak of it.
use Rattle.std.specs.Prelude.{Bool, List, ℕ, Option, eqb, ltb}
use Rattle.std.specs.Bool.{then_some}
use Rattle.sets.specs.Tests.{◌and◌, ◌or◌, non, when◌then◌else◌}
use Rattle.sets.specs.Members.{width, mem, those, some_below, every_below, least_below}
use Rattle.sets.specs.Rows.{in_row, rows_of, rows_for, turned}
use Rattle.sets.specs.Answers.{is_done}
use Rattle.sets.specs.declared.activity.Activity.{Activity}
use Rattle.sets.specs.declared.set.Set.{Set}
use Rattle.engine.specs.declared.marking.State.{State}
use Rattle.engine.specs.Relations.{Relations}
use Rattle.engine.specs.Steps.{enabled}
use Rattle.finish.specs.declared.search.Way.{Way}
use Rattle.finish.specs.Ways.{can_finish, way_of, in_four}

-- ---- which steps can be the last

-- as the last step a settles x: it is x, or shuts x out and does not let it in; and it owes nothing that it lets in itself
unfoldable pub settles : Relations → ℕ → ℕ → Bool
settles r a x = non (some_below width (λ y. r.responses a y and r.includes a y)) and (r.excludes a x and non (r.includes a x) or eqb x a)

-- for each activity the events that settle it
abbrev pub settlers_of : Set → Relations → List ℕ
settlers_of events r = rows_of (turned (rows_for events (settles r)))

-- a is live and stands in the row of each that is owed
abbrev pub in_all : List ℕ → Set → Set → ℕ → Bool
in_all rows live owed a = mem live a and every_below width (λ x. non (mem owed x) or in_row rows x a)

abbrev pub live_at : Set → State → Set
live_at events m = those (λ a. mem events a and mem m.included a)

abbrev pub owed_at : State → Set
owed_at m = those (λ a. mem m.pending a and mem m.included a)

-- the steps to try with so many left: the included events; for the last step those that settle all that is owed
unfoldable pub candidates_of : Set → List ℕ → State → ℕ → Set
candidates_of events settlers m left =
    when eqb left 1 then those (in_all settlers (live_at events m) (owed_at m)) else live_at events m

-- ---- the search

-- a is of these, not below i, and enabled
abbrev pub open_from : Set → Set → Relations → State → ℕ → ℕ → Bool
open_from live events r m i a = mem live a and non (ltb a i) and is_done (enabled events r m a)

-- the least of these
abbrev pub first_open : Set → Set → Relations → State → ℕ → Option Activity
first_open live events r m i =
    then_some (ltb (least_below width (open_from live events r m i)) width) (record { 0 = least_below width (open_from live events r m i) })

-- the first way of n steps, where there is one
abbrev pub found_of : Set → Relations → ℕ → State → Option Way
found_of events r n m = then_some (can_finish events r n m) (in_four (way_of events r n m))

-- a way, with a step in front
abbrev pub ahead_of : ℕ → Way → Way
ahead_of a w = record { first = record { 0 = a }; second = w.first; third = w.second; fourth = w.third }

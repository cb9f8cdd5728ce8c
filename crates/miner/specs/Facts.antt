-- What the passes of steps 6, 7 and 9 put into rows or take out of them: the words of the contracts of src/includes.rt, src/redundant.rt and
-- src/conditions.rt. That they are the rules' answers is a theorem, so a reader of `mine` need not believe this file.
use Rattle.std.specs.Prelude.{◌≡◌, Bool, false, cond, List, [], ◌∷◌, ℕ, suc, ltb, set}
use Rattle.sets.specs.Tests.{◌and◌, ◌or◌, non}
use Rattle.sets.specs.Members.{width, mem, some_below}
use Rattle.sets.specs.Rows.{Relation, in_row, rows_of}
use Rattle.sets.specs.declared.set.Set.{Set}
use Rattle.rules.specs.Traces.{Traces, ◌has◌, at_some, some_trace}
use Rattle.tally.specs.Passes.{Fact}

-- x comes later, and never directly follows something that stands before the place: row s of `unfollowed` has what never directly follows s
unfoldable pub let_in : List ℕ → Fact
let_in unfollowed e past rest x = rest has x and some_below width (λ s. past has s and in_row unfollowed s x)

-- the table of the last place of each activity, with the places from i on: a later place of an activity stands in the stead of an earlier one
unfoldable pub places_from : List ℕ → ℕ → List ℕ → List ℕ
places_from last i [] = last
places_from last i (e ∷ rest) = places_from (cond (ltb e width) (set last e i) last) (suc i) rest

-- rows less the pairs that are gone, whatever relation's rows they are
abbrev pub Less : List ℕ → Relation → List ℕ → Type 0
Less rows gone left = (r : Relation) → rows ≡ rows_of r → left ≡ rows_of (λ a x. r a x and non (gone a x))

-- x was let in since a u: something before the place, with a u before it, includes x
unfoldable pub let_in_since : List ℕ → ℕ → List ℕ → ℕ → Bool
let_in_since includes u [] x = false
let_in_since includes u (y ∷ past) x = let_in_since includes u past x or past has u and in_row includes y x

-- the same at some e of a trace, and of a log
abbrev pub reopened_in : List ℕ → ℕ → List ℕ → Relation
reopened_in includes u σ e x = at_some e (λ past rest. let_in_since includes u past x) σ

abbrev pub reopened : List ℕ → ℕ → Traces → Relation
reopened includes u L e x = some_trace L (λ σ. reopened_in includes u σ e x)

-- something that includes x stands after some u and before some e, in one trace or in two: only then x can have been let in between them
unfoldable pub doubted : List ℕ → List ℕ → Set → Relation
doubted before includes later e x = some_below width (λ v. mem later v and in_row before e v and in_row includes v x)

-- x stands before the place, and e does not
unfoldable pub before_first : Fact
before_first e past rest x = past has x and non (past has e)

-- x is included once the past has been replayed by these includes and excludes alone, from all events
unfoldable pub still_included : Set → List ℕ → List ℕ → List ℕ → ℕ → Bool
still_included events includes excludes [] x = mem events x
still_included events includes excludes (y ∷ past) x =
    still_included events includes excludes past x and non (in_row excludes y x) or in_row includes y x

-- x does not stand before the place, and is included there
unfoldable pub missed : Set → List ℕ → List ℕ → Fact
missed events includes excludes e past rest x = non (past has x) and still_included events includes excludes past x

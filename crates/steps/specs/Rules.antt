-- A rule for the row of one activity, as a function of it.
use Rattle.std.specs.Prelude.{◌≡◌, ◌<◌}
use Rattle.sets.specs.Members.{width, those}
use Rattle.sets.specs.Rows.{Relation}
use Rattle.sets.specs.declared.set.Set.{Set}
use Rattle.sets.specs.declared.activity.Activity.{Activity}

-- what it gives for an activity is the activity's row of the relation
abbrev pub IsRuleOf : (Activity → Set → Type 0) → Relation → Type 0
IsRuleOf gives r = (a : Activity) → a.0 < width → (s : Set) → gives a s → s ≡ those (r a.0)

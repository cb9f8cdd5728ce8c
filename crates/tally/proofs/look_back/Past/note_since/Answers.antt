use mathlib.Core.Path.{◌≡◌, sym, ◌∙◌}
use mathlib.Core.Bool.{Bool, true}
use Prim.Native.Nat.{ℕ, ◌<◌}
use borrow.Author.Rules.{rules}
use Rattle.sets.specs.Members.{width, mem}
use Rattle.sets.specs.declared.set.Set.{Set}
use Rattle.sets.proofs.Tests.{true→T}
use Rattle.sets.proofs.Members.{Whole, whole-low, those-mem}
use Rattle.tally.proofs.Alternate.{note-full, note-repeat, note-first}
use Rattle.tally.proofs.look_back.Past.note_since.Goals as goal

-- what was seen is below the width
looked-low : (s : Set) (e : ℕ) (r : Bool) → Whole s → r ≡ mem s e → r ≡ true → e < width
looked-low s e r hs hr ht = whole-low s hs e (true→T (sym hr ∙ ht))

pub returns-then-is_empty : goal.returns-then-is_empty
returns-then-is_empty g c = search (note-full, those-mem, rules)

pub unmet-left-requires : goal.unmet-left-requires
unmet-left-requires g c = search (looked-low, those-mem, rules)

pub returns-then-has : goal.returns-then-has
returns-then-has g c = search (note-repeat, rules)

pub returns-else-has : goal.returns-else-has
returns-else-has g c = search (note-first, rules)

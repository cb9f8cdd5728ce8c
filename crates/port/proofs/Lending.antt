-- What is lent, by the form that the code found. Assumes nothing.
use mathlib.Core.Path.{◌≡◌, sym, ap, ◌∙◌}
use mathlib.Core.Bool.{Bool, true, false}
use mathlib.Core.List.{List}
use Prim.Native.Nat.{ℕ, ◌≤◌, ◌<◌}
use native.Mathlib.Omega.{arith}
use borrow.Author.Tests.{lt-ltb, le-ltb}
use lib.Dec.{ltb}
use lib.ListN.{get_or}
use Rattle.engine.specs.declared.marking.Marking.{Marking}
use Rattle.graphfile.specs.Layout.{wide_for}
use Rattle.graphfile.specs.Heads.{lone_head_length, wide_head}
use Rattle.graphfile.specs.Markings.{marking_length, marking_from}
use Rattle.desk.specs.Places.{table_length}

pub head-form : (head : List ℕ) (a : ℕ) (w : Bool) → a ≡ get_or head 0 0 → w ≡ wide_for a → w ≡ wide_head head
head-form head a w e h = h ∙ ap wide_for e

module _ (w v : Bool) (same : w ≡ v) where
  pub marking-needs : (n : ℕ) → n ≡ marking_length w → n ≡ marking_length v
  marking-needs n e = e ∙ ap marking_length same

  pub head-needs : (n : ℕ) → n ≡ lone_head_length w → n ≡ lone_head_length v
  head-needs n e = e ∙ ap lone_head_length same

  pub table-needs : (n : ℕ) → n ≡ table_length w → n ≡ table_length v
  table-needs n e = e ∙ ap table_length same

  pub marking-read : (bytes : List ℕ) (m : Marking) → m ≡ marking_from w bytes → m ≡ marking_from v bytes
  marking-read bytes m e = e ∙ ap (λ (x : Bool). marking_from x bytes) same

pub ruleset lending = (head-form, marking-needs, head-needs, table-needs, marking-read)

-- ---- too little of it, or enough

module _ (lent room least : ℕ) (e : room ≡ least) where
  pub short-of : lent < room → true ≡ ltb lent least
  short-of l = sym (lt-ltb lent least (omega arith))

  pub room-for_lem : room ≤ lent → false ≡ ltb lent least
  room-for_lem l = sym (le-ltb lent least (omega arith))

pub ruleset measured = (short-of, room-for_lem)

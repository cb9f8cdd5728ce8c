-- The pairs and the events of a graph that is not refused are below its A. Assumes nothing.
use mathlib.Core.Path.{◌≡◌, refl, ◌∙◌}
use mathlib.Core.Bool.{Bool, false}
use mathlib.Core.List.{List}
use Prim.Native.Nat.{ℕ, ◌+◌, ◌≤◌, ◌<◌}
use native.Mathlib.Omega.{arith}
use borrow.Author.Tests.{ltb-true}
use lib.Dec.{T, ltb}
use Rattle.sets.specs.Tests.{non}
use Rattle.sets.specs.Members.{width, word, mem, is_empty, count_below}
use Rattle.sets.specs.Rows.{row_at, in_row}
use Rattle.sets.specs.Tables.{table_at}
use Rattle.sets.specs.declared.set.Set.{Set}
use Rattle.sets.proofs.Tests.{and_r, or-e, non-e, T→true, F→false, either}
use Rattle.sets.proofs.Below.{every-e, count-ext, count-le, count-split}
use Rattle.sets.proofs.Members.{those-e, within-e}
use Rattle.engine.specs.Relations.{relation_count}
use Rattle.engine.specs.Judged.{row_within, rows_within, graph_within}
use Rattle.engine.specs.declared.graph.Graph.{Graph}
use Rattle.engine.proofs.Acceptable.{events-inside, rows_inside, in-inside}

-- a row that is not empty is an event's
key-inside : (events : Set) (rows : List ℕ) → T (rows_within events rows) → (a b : ℕ) → a < width → b < width → T (in_row rows a b) → T (mem events a)
unfolding rows_within row_within in_row is_empty
key-inside events rows w a b l k t =
    either (or-e _ _ (and_r _ _ (every-e width (λ c. row_within events c (row_at rows c)) w a l))) (λ h. h)
    (λ e. absurd (non-e _ (every-e width (λ c. non (mem (row_at rows a) c)) e b k) t))

module _ (g : Graph) (w : T (graph_within g)) where
  pub event-below : (a : ℕ) → a < width → T (mem g.head.events a) → a < g.head.activities
  event-below a l t =
      ltb-true a g.head.activities
      (T→true _ (those-e (λ b. ltb b g.head.activities) a (within-e g.head.events _ (events-inside g w) a l t)).1)

  pub pair-below : (k : ℕ) → k < relation_count → (a b : ℕ) → a < width → b < width → T (in_row (table_at g.relations k) a b)
      → (a < g.head.activities) × (b < g.head.activities)
  pair-below k h a b l m t =
      let rows = table_at g.relations k in
      let inside = rows_inside g w k h in (
        event-below a l (key-inside g.head.events rows inside a b l m t),
        event-below b m (in-inside g.head.events rows inside a l b m t),
      )

-- of numbers that are all below 64 there are at most 64
none-counted : count_below word (λ a. false) ≡ 0
unfolding count_below
none-counted = refl

pub count-narrow : (p : ℕ → Bool) → ((a : ℕ) → a < width → T (p a) → a < word) → count_below width p ≤ word
count-narrow p f =
    let above : (a : ℕ) → a < word → p (word + a) ≡ false = λ a l. F→false _ (λ t. let h = f (word + a) (omega arith) t in omega arith) in
    let none = count-ext word (λ a. p (word + a)) (λ a. false) above ∙ none-counted in
    omega (arith, count-split word word p, count-le word p, none)

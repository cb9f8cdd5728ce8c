-- The sets of a tally before any trace is asked for its pairs. Assumes nothing.
use mathlib.Core.Path.{◌≡◌, refl, sym, ap, ◌∙◌}
use mathlib.Core.Bool.{false}
use mathlib.Core.List.{List, ◌++◌}
use Prim.Native.Nat.{ℕ, ◌+◌, ◌-◌, ◌*◌, ◌/◌, ◌%◌, ◌≤◌, ◌<◌}
use native.Mathlib.Omega.{arith}
use borrow.Author.Tests.{lt-ltb, le-ltb}
use lib.ListN.{length, drop}
use Rattle.sets.specs.Members.{mem, those, no_set}
use Rattle.sets.specs.Rows.{row_at, in_row}
use Rattle.sets.specs.Tables.{table_at}
use Rattle.sets.specs.declared.set.Set.{Set}
use Rattle.octets.specs.Sets.{set_length, set_put}
use Rattle.months.specs.Layout.{tally_width, set_count, tally_length, first_row, rows_end, sets_from}
use Rattle.months.specs.Pairs.{initial_of}
use Rattle.months.proofs.Packed.{put_next}

module _ (events : Set) (tables : List ℕ) (w : ℕ) where
  pub initial-first : w < 1 → no_set ≡ initial_of events tables w
  unfolding initial_of
  initial-first l = rw (lt-ltb w 1 l)

  pub initial-events : 1 ≤ w → w < first_row → events ≡ initial_of events tables w
  unfolding initial_of
  initial-events g l = rw (le-ltb w 1 g, lt-ltb w first_row l)

  pub initial-spare : rows_end ≤ w → no_set ≡ initial_of events tables w
  unfolding initial_of
  initial-spare g =
      let one : 1 ≤ w = omega arith in
      let two : first_row ≤ w = omega arith in
      rw (le-ltb w 1 one, le-ltb w first_row two, le-ltb w rows_end g)

  pub initial-row : first_row ≤ w → w < rows_end
      → those (in_row (table_at tables ((w - first_row) / tally_width)) ((w - first_row) % tally_width)) ≡ initial_of events tables w
  unfolding initial_of
  initial-row g l = let one : 1 ≤ w = omega arith in rw (le-ltb w 1 one, le-ltb w first_row g, lt-ltb w rows_end l)

  pub initial-read : (r : Set) → first_row ≤ w → w < rows_end → those (mem r) ≡ r
      → r ≡ row_at (table_at tables ((w - first_row) / tally_width)) ((w - first_row) % tally_width) → r ≡ initial_of events tables w
  unfolding in_row
  initial-read r g l whole h = sym whole ∙ ap (λ (s : Set). those (mem s)) h ∙ initial-row g l

pub ruleset initials = (initial-first, initial-events, initial-spare, initial-read)

-- ---- all of them, one after another

abbrev pub initial_to : Set → List ℕ → List ℕ → ℕ → List ℕ
initial_to events tables bytes w = sets_from w 0 (initial_of events tables) ++ drop (set_length false * w) bytes

module _ (events : Set) (tables bytes : List ℕ) where
  pub initial-start : bytes ≡ initial_to events tables bytes 0
  unfolding sets_from
  initial-start = refl

  pub initial-turn : (w : ℕ) (s : Set) (out out' : List ℕ) → w < set_count → tally_length ≤ length bytes → out ≡ initial_to events tables bytes w
      → s ≡ initial_of events tables w → out' ≡ set_put false out (set_length false * w) s → out' ≡ initial_to events tables bytes (w + 1)
  initial-turn w s out out' l long h e p =
      put_next w (initial_of events tables) out out' bytes (omega arith) h (p ∙ ap (set_put false out (set_length false * w)) e)

  pub initial-end : (w : ℕ) (out : List ℕ) → set_count ≤ w → w ≤ set_count → out ≡ initial_to events tables bytes w
      → out ≡ sets_from set_count 0 (initial_of events tables) ++ drop tally_length bytes
  initial-end w out g l h =
      let same : w ≡ set_count = omega arith in
      h ∙ ap (initial_to events tables bytes) same

pub ruleset initial = (initial-start, initial-turn, initial-end)

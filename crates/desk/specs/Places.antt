-- The table of places (02, 5/12: "a table of 32 places for vessels in port"), as bytes; its markings are in the form that the file of the graph has
-- (02, 10/12).
use Rattle.std.specs.Prelude.{◌≡◌, Bool, List, ℕ, Option, ◌+◌, ◌*◌, eqb, ltb, length, get_or, set}
use Rattle.std.specs.Bool.{then_some}
use Rattle.std.proofs.lemmas.List.Edits.{sets}
use Rattle.sets.specs.Tests.{◌and◌, non}
use Rattle.sets.specs.Members.{least_below}
use Rattle.engine.specs.declared.marking.Marking.{Marking}
use Rattle.graphfile.specs.Layout.{marking_at}
use Rattle.graphfile.specs.Markings.{marking_length, marking_bytes}

abbrev pub place_count : ℕ
place_count = 32

-- one byte that says whether the place is open, then its marking: 33 bytes, or 65
abbrev pub place_length : Bool → ℕ
place_length wide = 1 + marking_length wide

abbrev pub table_length : Bool → ℕ
table_length wide = place_length wide * place_count

-- where a place's bytes begin
unfoldable pub place_start : Bool → ℕ → ℕ
place_start wide p = place_length wide * p

-- the place is open: it is below 32, and its first byte is not 0
unfoldable pub is_open : Bool → List ℕ → ℕ → Bool
is_open wide table p = ltb p place_count and non (eqb (get_or table (place_start wide p) 0) 0)

unfoldable pub marking_at_place : Bool → List ℕ → ℕ → Marking
marking_at_place wide table p = marking_at wide table (place_start wide p + 1)

-- a table and a later one, of as many bytes, are the same at a place
pub record SameAt (wide : Bool) (p : ℕ) (table table' : List ℕ) : Type 0 where
  pub long : length table' ≡ length table
  pub opens : is_open wide table' p ≡ is_open wide table p
  pub marking : marking_at_place wide table' p ≡ marking_at_place wide table p

-- the table with a marking stored at a place
unfoldable pub with_marking : Bool → List ℕ → ℕ → Marking → List ℕ
with_marking wide table p m = sets table (place_start wide p + 1) (marking_bytes wide m)

-- and with the place's first byte
unfoldable pub with_place : Bool → List ℕ → ℕ → ℕ → Marking → List ℕ
with_place wide table p first m = with_marking wide (set table (place_start wide p) first) p m

-- the lowest place that is free, by a test of those that are taken; 32 where none is
unfoldable pub lowest_free : (ℕ → Bool) → ℕ
lowest_free taken = least_below place_count (λ p. non (taken p))

-- the same, where there is one
abbrev pub free_place : (ℕ → Bool) → Option ℕ
free_place taken = then_some (ltb (lowest_free taken) place_count) (lowest_free taken)

-- The writer's loops over the rows of a relation: counting them, and storing them. Assumes nothing.
use mathlib.Core.Path.{◌≡◌, refl, sym, ap, ◌∙◌}
use mathlib.Core.Bool.{Bool, true, false, not}
use mathlib.Core.List.{List, [], ◌∷◌, ◌++◌}
use Prim.Native.Nat.{ℕ, suc, ◌+◌, ◌-◌, ◌^◌, ◌≤◌, ◌<◌}
use native.Mathlib.Nat.{add-zero, zero-add, sub-zero}
use native.Mathlib.Numerals.{add-one}
use native.Mathlib.Omega.{arith}
use lib.Dec.{eqb}
use lib.ListN.{length, set, length-set}
use lib.Seq.{sets, length-sets}
use Rattle.sets.specs.Tests.{when◌then◌else◌}
use Rattle.sets.specs.Members.{is_empty}
use Rattle.sets.specs.Rows.{row_at}
use Rattle.sets.specs.declared.set.Set.{Set}
use Rattle.octets.specs.Sets.{set_length, set_bytes, set_put}
use Rattle.octets.proofs.SetLaws.{set-stored, set-kept}
use Rattle.graphfile.specs.Layout.{row_length, rows_length}
use Rattle.graphfile.proofs.RowLengths.{rows_none, rows-one, rows-add}
use Rattle.graphfile.specs.Refusals.{most_rows}
use Rattle.graphfile.specs.Writing.{row_of, rows_for, rows_from, count_from, relation_bytes, row_count}
use Rattle.graphfile.proofs.Stores.{length-row}
use Rattle.octets.proofs.Parts.{follow}

-- ---- one row

module _ (s : Set) (e : Bool) (h : e ≡ is_empty s) where
  pub for-none : e ≡ true → 0 ≡ rows_for s
  unfolding rows_for
  for-none t = ap (λ (b : Bool). when b then 0 else 1) (sym t ∙ h)

  pub for-one : e ≡ false → 1 ≡ rows_for s
  unfolding rows_for
  for-one t = ap (λ (b : Bool). when b then 0 else 1) (sym t ∙ h)

module _ (wide : Bool) (s : Set) (e : Bool) (h : e ≡ is_empty s) where
  length-one : e ≡ false → rows_length wide (rows_for s) ≡ row_length wide
  length-one t = ap (rows_length wide) (sym (for-one s e h t)) ∙ rows-one wide

  length_none : e ≡ true → rows_length wide (rows_for s) ≡ 0
  length_none t = ap (rows_length wide) (sym (for-none s e h t)) ∙ rows_none wide

  pub row-none : (out : List ℕ) (at a : ℕ) → e ≡ true → out ≡ sets out at (row_of wide a s)
  unfolding row_of
  row-none out at a t = ap (λ (b : Bool). sets out at (when b then [] else a ∷ set_bytes wide s)) (sym t ∙ h)

  pub row_one : (out out' : List ℕ) (at a : ℕ) → e ≡ false → at + rows_length wide (rows_for s) ≤ length out
      → out' ≡ set_put wide (set out at a) (at + 1) s → out' ≡ sets out at (row_of wide a s)
  unfolding row_of
  row_one out out' at a t room f =
      set-stored wide (set out at a) out' (at + 1) s f (omega (arith, length-one t, length-set out at a))
      ∙ ap (λ (k : ℕ). sets (set out at a) k (set_bytes wide s)) (add-one at)
      ∙ ap (λ (b : Bool). sets out at (when b then [] else a ∷ set_bytes wide s)) (sym t ∙ h)

  pub place_none : (at : ℕ) → e ≡ true → at ≡ at + rows_length wide (rows_for s)
  place_none at t = omega (arith, length_none t)

  pub place-one : (at n : ℕ) → n ≡ set_length wide → e ≡ false → at + 1 + n ≡ at + rows_length wide (rows_for s)
  place-one at n hn t = omega (arith, length-one t)

  module _ (t : e ≡ false) (at : ℕ) (out : List ℕ) (room : at + rows_length wide (rows_for s) ≤ length out) where
    pub row_fits : (n : ℕ) → n ≡ set_length wide → length out < 2 ^ 64 → at + 1 + n < 2 ^ 64
    row_fits n hn l = omega (arith, length-one t)

    pub room-key : at < length out
    room-key = omega (arith, length-one t)

-- ---- the form, as a const parameter has it

abbrev pub form_of : ℕ → Bool
form_of n = not (eqb n 0)

-- ---- one activity after the other

-- the code has the end in a number of its own
module _ (rows : List ℕ) (most a end : ℕ) (e : end ≡ most) (l : a < end) where
  left : most - a ≡ suc (most - (a + 1))
  left = omega arith

  count-step : count_from rows (most - a) a ≡ rows_for (row_at rows a) + count_from rows (most - (a + 1)) (a + 1)
  unfolding count_from
  count-step = ap (λ (n : ℕ). count_from rows n a) left
      ∙ ap (λ (b : ℕ). rows_for (row_at rows a) + count_from rows (most - (a + 1)) b) (sym (add-one a))

  pub count_turn : (s : Set) → s ≡ row_at rows a → (n k whole : ℕ) → n + count_from rows (most - a) a ≡ whole → k ≡ rows_for s
      → n + k + count_from rows (most - (a + 1)) (a + 1) ≡ whole
  count_turn s h n k whole p f = let g : k ≡ rows_for (row_at rows a) = f ∙ ap rows_for h in omega (arith, count-step)

  module _ (wide : Bool) where
    rows_step : rows_from wide rows (most - a) a ≡ row_of wide a (row_at rows a) ++ rows_from wide rows (most - (a + 1)) (a + 1)
    unfolding rows_from
    rows_step = ap (λ (n : ℕ). rows_from wide rows n a) left
        ∙ ap (λ (b : ℕ). row_of wide a (row_at rows a) ++ rows_from wide rows (most - (a + 1)) b) (sym (add-one a))

    module _ (s : Set) (h : s ≡ row_at rows a) where
      -- the bytes of this row and of those after it
      length-step : rows_length wide (count_from rows (most - a) a) ≡ rows_length wide (rows_for s) + rows_length wide (count_from rows (most - (a + 1)) (a + 1))
      length-step =
          ap (rows_length wide) count-step
          ∙ rows-add wide (rows_for (row_at rows a)) (count_from rows (most - (a + 1)) (a + 1))
          ∙ ap (λ (v : Set). rows_length wide (rows_for v) + rows_length wide (count_from rows (most - (a + 1)) (a + 1))) (sym h)

      -- the place after the row, and what room the rows from here on need
      pub place-turn : (next next' all : ℕ) → next + rows_length wide (count_from rows (most - a) a) ≡ all → next' ≡ next + rows_length wide (rows_for s)
          → next' + rows_length wide (count_from rows (most - (a + 1)) (a + 1)) ≡ all
      place-turn next next' all p f = omega (arith, length-step)

      pub place-room : (next all : ℕ) (out out₀ : List ℕ) → next + rows_length wide (count_from rows (most - a) a) ≡ all → all ≤ length out₀
          → length out ≡ length out₀
          → next + rows_length wide (rows_for s) ≤ length out
      place-room next all out out₀ p f g = omega (arith, length-step)

      pub rows-turn : (out out' whole : List ℕ) (next next' : ℕ) → sets out next (rows_from wide rows (most - a) a) ≡ whole
          → next' ≡ next + rows_length wide (rows_for s) → out' ≡ sets out next (row_of wide a s)
          → sets out' next' (rows_from wide rows (most - (a + 1)) (a + 1)) ≡ whole
      rows-turn out out' whole next next' w f g =
          let p : next' ≡ next + length (row_of wide a s) = omega (arith, length-row wide a s) in
          follow out out' _ (row_of wide a s) (rows_from wide rows (most - (a + 1)) (a + 1)) next next' p g refl
          ∙ ap (λ (v : Set). sets out next (row_of wide a v ++ rows_from wide rows (most - (a + 1)) (a + 1))) h
          ∙ ap (sets out next) (sym rows_step)
          ∙ w

module _ (wide : Bool) (rows : List ℕ) (most : ℕ) (h : most ≡ most_rows wide) where
  all : most - 0 ≡ most_rows wide
  all = sub-zero most ∙ h

  pub place-begin : (at : ℕ) → at + rows_length wide (count_from rows (most - 0) 0) ≡ at + rows_length wide (row_count wide rows)
  place-begin at = ap (λ (n : ℕ). at + rows_length wide (count_from rows n 0)) all

  pub rows-begin : (out : List ℕ) (at : ℕ) → sets out at (rows_from wide rows (most - 0) 0) ≡ sets out at (relation_bytes wide rows)
  rows-begin out at = ap (λ (n : ℕ). sets out at (rows_from wide rows n 0)) all

pub count-begin : (rows : List ℕ) (most : ℕ) → 0 + count_from rows (most - 0) 0 ≡ count_from rows most 0
count-begin rows most = zero-add _ ∙ ap (λ (n : ℕ). count_from rows n 0) (sub-zero most)

module _ (rows : List ℕ) (most a end : ℕ) (e : end ≡ most) (l : end ≤ a) where
  none : most - a ≡ 0
  none = omega arith

  pub count-end : (n whole : ℕ) → n + count_from rows (most - a) a ≡ whole → n ≡ whole
  unfolding count_from
  count-end n whole p = sym (add-zero n) ∙ ap (λ (k : ℕ). n + count_from rows k a) (sym none) ∙ p

  pub place_end : (wide : Bool) (next all : ℕ) → next + rows_length wide (count_from rows (most - a) a) ≡ all → next ≡ all
  unfolding count_from
  place_end wide next all p =
      let zero-long = rows_none wide in
      let same = ap (λ (k : ℕ). next + rows_length wide (count_from rows k a)) none in
      omega (arith, p)

  pub rows-end_lem : (wide : Bool) (out whole : List ℕ) (next : ℕ) → sets out next (rows_from wide rows (most - a) a) ≡ whole → out ≡ whole
  unfolding rows_from
  rows-end_lem wide out whole next p = ap (λ (n : ℕ). sets out next (rows_from wide rows n a)) (sym none) ∙ p

pub kept-length : (out out' out₀ vs : List ℕ) (at : ℕ) → length out ≡ length out₀ → out' ≡ sets out at vs → length out' ≡ length out₀
kept-length out out' out₀ vs at e f = ap length f ∙ length-sets out at vs ∙ e

pub row-length_lem : (wide : Bool) (out out' : List ℕ) (at a next : ℕ) (s : Set) → out' ≡ set_put wide (set out at a) next s → length out' ≡ length out
row-length_lem wide out out' at a next s f = set-kept wide (set out at a) out' next s f ∙ length-set out at a

pub ruleset one-row = (for-none, for-one, row-none, row_one, place_none, place-one, room-key)

pub ruleset storing = (row-none, row_one, place_none, place-one, room-key, row_fits, row-length_lem)

pub ruleset counts = (count-begin, count_turn, count-end)

pub ruleset each_row = (place-begin, rows-begin, place-room, place-turn, rows-turn, place_end, rows-end_lem)

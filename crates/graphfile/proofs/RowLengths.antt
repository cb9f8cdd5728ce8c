-- How many bytes rows have, in either form: laws for `omega`, to which the product of two unknown numbers is closed. Assumes nothing.
use mathlib.Core.Path.{◌≡◌, refl, ap}
use mathlib.Core.Bool.{Bool, true, false}
use Prim.Native.Nat.{ℕ, suc, ◌+◌, ◌*◌, ◌^◌, ◌≤◌, ◌<◌}
use native.Mathlib.Omega.{arith}
use Rattle.engine.specs.Relations.{relation_count}
use Rattle.octets.specs.Sets.{set_length}
use Rattle.graphfile.specs.Layout.{row_length, rows_length}

-- no set has more bytes
pub set-most : (wide : Bool) → set_length wide ≤ 16
set-most true = omega arith
set-most false = omega arith

pub rows_none : (wide : Bool) → rows_length wide 0 ≡ 0
unfolding rows_length
rows_none true = refl
rows_none false = refl

pub rows-one : (wide : Bool) → rows_length wide 1 ≡ row_length wide
unfolding rows_length
rows-one true = refl
rows-one false = refl

pub rows-add : (wide : Bool) (m n : ℕ) → rows_length wide (m + n) ≡ rows_length wide m + rows_length wide n
unfolding rows_length
rows-add true m n = omega arith
rows-add false m n = omega arith

pub rows-suc : (wide : Bool) (n : ℕ) → rows_length wide (suc n) ≡ rows_length wide n + row_length wide
unfolding rows_length
rows-suc true n = omega arith
rows-suc false n = omega arith

pub rows-le : (wide : Bool) (m n : ℕ) → m ≤ n → rows_length wide m ≤ rows_length wide n
unfolding rows_length
rows-le true m n l = omega arith
rows-le false m n l = omega arith

-- equal lengths are of equally many rows
pub rows_same : (wide : Bool) (m n : ℕ) → rows_length wide m ≡ rows_length wide n → m ≡ n
unfolding rows_length
rows_same true m n e = omega arith
rows_same false m n e = omega arith

pub rows-most : (wide : Bool) (n : ℕ) → rows_length wide n ≤ 17 * n
unfolding rows_length
rows-most true n = omega arith
rows-most false n = omega arith

-- as the code has them, by the length of a set
module _ (wide : Bool) (n long : ℕ) (e : long ≡ set_length wide) where
  pub rows-by : (1 + long) * n ≡ rows_length wide n
  unfolding rows_length
  rows-by = ap (λ (l : ℕ). (1 + l) * n) e

  pub rows_fit : n ≤ 65536 * relation_count → (1 + long) * n < 2 ^ 64
  rows_fit l = omega (arith, rows-by, rows-most wide n)

pub ruleset lengths = (rows-by, rows_fit)

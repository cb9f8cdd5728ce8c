-- Bytes read one by one: two that are there, and in a loop against a recursive definition. Assumes nothing.
use mathlib.Core.Path.{◌≡◌, refl, sym, ap, ap₂, ◌∙◌}
use mathlib.Core.Bool.{Bool, true, false, ◌&&◌}
use mathlib.Core.List.{List}
use Prim.Native.Nat.{ℕ, suc, ◌+◌, ◌*◌, ◌≤◌, ◌<◌}
use native.Mathlib.Numerals.{add-one}
use lib.Dec.{ltb}
use lib.ListN.{length, get_or, drop, drop_of_length-le}
use lib.Seq.{drop-cons}
use Rattle.sets.specs.Tests.{◌and◌}
use Rattle.sets.proofs.Tests.{true-and, and-true}
use Rattle.octets.specs.Numbers.{number_at, number_length}
use Rattle.octets.proofs.NumberLaws.{two-bytes_lem}
use Rattle.calllog.specs.Judged.{all_below}

-- ---- two bytes

pub number_is : (bytes : List ℕ) (i low high : ℕ) → low ≡ get_or bytes i 0 → high ≡ get_or bytes (i + 1) 0 → low + 256 * high ≡ number_at number_length bytes i
number_is bytes i low high l h = ap₂ (λ (x y : ℕ). x + 256 * y) l h ∙ sym (two-bytes_lem bytes i)

-- ---- bytes that are all below a, byte by byte

-- the code's `&`
regroup : (a b c : Bool) → ((a && b) and c) ≡ (a and (b and c))
unfolding ◌and◌
regroup true b c = refl
regroup false b c = refl

module _ (a : ℕ) (bytes : List ℕ) where
  -- nothing has been seen yet
  pub below-start : (i : ℕ) → (true and all_below a (drop i bytes)) ≡ all_below a (drop i bytes)
  below-start i = true-and (all_below a (drop i bytes))

  module _ (i : ℕ) (below R : Bool) (held : (below and all_below a (drop i bytes)) ≡ R) where
    pub below_next : i < length bytes → ((below && ltb (get_or bytes i 0) a) and all_below a (drop (i + 1) bytes)) ≡ R
    unfolding all_below
    below_next b =
        ap (λ (n : ℕ). (below && ltb (get_or bytes i 0) a) and all_below a (drop n bytes)) (add-one i)
        ∙ regroup below (ltb (get_or bytes i 0) a) (all_below a (drop (suc i) bytes))
        ∙ ap (λ (l : List ℕ). below and all_below a l) (sym (drop-cons bytes i 0 b))
        ∙ held

    pub below_end : length bytes ≤ i → below ≡ R
    unfolding all_below
    below_end b = sym (and-true below) ∙ ap (λ (l : List ℕ). below and all_below a l) (sym (drop_of_length-le bytes b)) ∙ held

pub ruleset scanning = (below-start, below_next, below_end)

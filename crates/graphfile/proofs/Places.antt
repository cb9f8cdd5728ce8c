-- What the reads at fixed places find. Assumes nothing.
use mathlib.Core.Path.{◌≡◌, refl, sym, ap, ap₂, ◌∙◌, subst}
use mathlib.Core.Bool.{Bool, true, false}
use mathlib.Core.List.{List, ◌++◌}
use Prim.Native.Nat.{ℕ, zero, suc, ◌+◌, ◌-◌, ◌*◌, ◌≤◌, ◌<◌}
use native.Mathlib.Nat.{zero-add, suc-add, le_refl, le_trans}
use native.Mathlib.Numerals.{add-one}
use native.Mathlib.Omega.{arith}
use lib.ListN.{length, take, drop}
use Rattle.sets.specs.declared.set.Set.{Set}
use Rattle.engine.specs.Relations.{relation_count}
use Rattle.octets.specs.Numbers.{value_of, number_length, number_at}
use Rattle.octets.specs.Sets.{word_length, set_length, set_there, set_at}
use Rattle.octets.proofs.Parts.{part, meet, length_part, part-whole}
use Rattle.octets.proofs.SetLaws.{at_there, part-first, part-second}
use Rattle.graphfile.specs.Layout.{count_in, sum_of, earlier_rows, row_place, end_of}
use Rattle.octets.specs.Editions.{wide_in}
use Rattle.graphfile.proofs.RowLengths.{rows-le}

-- ---- what the code cuts out for a number or a set, from its place to its end, is all that is read

number-alone : (bytes : List ℕ) (at n : ℕ) → at + n ≤ length bytes → number_at n (part bytes at n) 0 ≡ number_at n bytes at
unfolding number_at
number-alone bytes at n room = ap value_of (part-whole (part bytes at n) n (length_part bytes at n room))

pub number_cut : (bytes : List ℕ) (at x : ℕ) → at + number_length ≤ length bytes
    → x ≡ number_at number_length (take (at + number_length - at) (drop at bytes)) 0 → x ≡ number_at number_length bytes at
number_cut bytes at x room h =
    let same : at + number_length - at ≡ number_length = omega arith in
    h ∙ ap (λ (n : ℕ). number_at number_length (part bytes at n) 0) same ∙ number-alone bytes at number_length room

set-alone : (wide : Bool) (bytes : List ℕ) (at : ℕ) → at + set_length wide ≤ length bytes
    → set_at wide (part bytes at (set_length wide)) 0 ≡ set_at wide bytes at
unfolding set_there number_at
set-alone wide bytes at room =
    at_there wide (part bytes at (set_length wide)) 0 (omega (arith, length_part bytes at (set_length wide) room))
    ∙ by wide room
    ∙ sym (at_there wide bytes at room)
  where
    by : (t : Bool) → at + set_length t ≤ length bytes → set_there t (part bytes at (set_length t)) 0 ≡ set_there t bytes at
    by true r =
        let low = part bytes at word_length in
        let high = part bytes (at + word_length) word_length in
        let all = part bytes at (word_length + word_length) in
        let long : length all ≡ word_length + word_length = length_part bytes at (word_length + word_length) r in
        let short : length low ≡ word_length = length_part bytes at word_length (omega arith) in
        let room' : 0 + word_length ≤ length all = omega arith in
        let both : part all 0 (word_length + word_length) ≡ low ++ high =
        part-whole all (word_length + word_length) long ∙ sym (meet bytes low high at word_length (at + word_length) word_length refl refl refl) in
        λ i. record {
          low = value_of (part-first all low high 0 word_length word_length short room' both i);
          high = value_of (part-second all low high 0 word_length word_length short room' both i);
        }
    by false r = λ i. record { low = value_of (part-whole (part bytes at word_length) word_length (length_part bytes at word_length r) i); high = 0 }

pub set-cut : (wide : Bool) (bytes : List ℕ) (at n : ℕ) (s : Set) → at + set_length wide ≤ length bytes → n ≡ set_length wide
    → s ≡ set_at wide (take (at + n - at) (drop at bytes)) 0 → s ≡ set_at wide bytes at
set-cut wide bytes at n s room e h =
    let same : at + n - at ≡ set_length wide = omega arith in
    h ∙ ap (λ (k : ℕ). set_at wide (part bytes at k) 0) same ∙ set-alone wide bytes at room

-- ---- a sum: what a loop adds up, and that it only grows

module _ (f : ℕ → ℕ) where
  pub sum-none : 0 ≡ sum_of f 0
  unfolding sum_of
  sum-none = refl

  pub sum-turn : (sum n i : ℕ) → sum ≡ sum_of f i → n ≡ f i → sum + n ≡ sum_of f (i + 1)
  unfolding sum_of
  sum-turn sum n i e h = ap₂ (λ (x y : ℕ). x + y) e h ∙ ap (sum_of f) (sym (add-one i))

  pub sum-all : (sum r i : ℕ) → i ≤ r → r ≤ i → sum ≡ sum_of f i → sum ≡ sum_of f r
  sum-all sum r i a b e = let same : i ≡ r = omega arith in e ∙ ap (sum_of f) same

  pub sum-le : (n r : ℕ) → sum_of f r ≤ sum_of f (n + r)
  unfolding sum_of
  sum-le zero r = subst (λ (k : ℕ). sum_of f r ≤ sum_of f k) (sym (zero-add r)) (le_refl _)
  sum-le (suc n) r =
      let more : sum_of f (n + r) ≤ sum_of f (suc (n + r)) = omega arith in
      subst (λ (k : ℕ). sum_of f r ≤ sum_of f k) (sym (suc-add n r)) (le_trans (sum-le n r) more)

  -- what is added next is within any later sum
  pub sum_room : (r n : ℕ) → r < n → sum_of f r + f r ≤ sum_of f n
  unfolding sum_of
  sum_room r n l =
      let last : n - suc r + suc r ≡ n = omega arith in
      subst (λ (k : ℕ). sum_of f (suc r) ≤ sum_of f k) last (sum-le (n - suc r) (suc r))

pub ruleset counting = (sum-none, sum-turn, sum-all)

pub sum-ext : (f g : ℕ → ℕ) (n : ℕ) → ((k : ℕ) → k < n → f k ≡ g k) → sum_of f n ≡ sum_of g n
unfolding sum_of
sum-ext f g zero e = refl
sum-ext f g (suc n) e = ap₂ (λ (x y : ℕ). x + y) (sum-ext f g n (λ k l. e k (omega arith))) (e n (omega arith))

-- a relation's rows end where the next one's begin, and that is at most where the last relation's end
pub rows-end_lem : (bytes : List ℕ) (r first count : ℕ) → r < relation_count → end_of bytes ≤ length bytes
    → first ≡ earlier_rows bytes r → count ≡ count_in bytes r → row_place bytes (first + count) ≤ length bytes
rows-end_lem bytes r first count l h e f =
    let more : first + count ≤ earlier_rows bytes relation_count = omega (arith, sum_room (count_in bytes) r relation_count l) in
    omega (arith, rows-le (wide_in bytes) (first + count) (earlier_rows bytes relation_count) more)

-- no file says more rows than this
pub rows_few : (r first count : ℕ) → r < relation_count → first ≤ 65536 * r → count < 65536 → first + count ≤ 65536 * relation_count
rows_few r first count l h k = omega arith

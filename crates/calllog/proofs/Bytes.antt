-- A log that is written by the rules is a list of bytes. Assumes nothing.
use mathlib.Core.Path.{◌≡◌}
use mathlib.Core.Bool.{Bool, true, false}
use mathlib.Core.List.{List, [], ◌∷◌}
use Prim.Native.Nat.{ℕ, ◌+◌, ◌/◌, ◌%◌, ◌≤◌, ◌<◌}
use native.Mathlib.Omega.{arith}
use lib.Dec.{T, ltb, ltb→lt, lt→ltb}
use lib.ListN.{length, length-append}
use Rattle.sets.specs.Tests.{when◌then◌else◌}
use Rattle.sets.specs.Members.{word}
use Rattle.octets.specs.Editions.{narrow_edition, wide_edition, edition_for}
use Rattle.sets.proofs.Tests.{and_l, and_r, and_i, T→true, true→T}
use Rattle.calllog.specs.Judged.{all_below}
use Rattle.calllog.specs.Written.{entries_of, end_to_end, log_bytes, WithinLimits}
use Rattle.calllog.proofs.Ends.{below-join, below_all}

none : (b : ℕ) → T (all_below b [])
unfolding all_below
none b = tt

one-more_lem : (b x : ℕ) (xs : List ℕ) → x < b → T (all_below b xs) → T (all_below b (x ∷ xs))
unfolding all_below
one-more_lem b x xs l t = and_i (ltb x b) _ (lt→ltb x b l) t

wider : (a b : ℕ) (xs : List ℕ) → a ≤ b → T (all_below a xs) → T (all_below b xs)
unfolding all_below
wider a b [] l t = tt
wider a b (x ∷ xs) l t =
    let h = ltb→lt x a (and_l (ltb x a) _ t) in
    one-more_lem b x xs (omega arith) (wider a b xs l (and_r (ltb x a) _ t))

two-more : (n : ℕ) (xs : List ℕ) → n < 65536 → T (all_below 256 xs) → T (all_below 256 (n % 256 ∷ n / 256 ∷ xs))
two-more n xs l t = one-more_lem 256 (n % 256) _ (omega arith) (one-more_lem 256 (n / 256) xs (omega arith) t)

entries-bytes_lem : (earlier : ℕ) (ts : List (List ℕ)) → earlier + length (end_to_end ts) < 65536 → T (all_below 256 (entries_of earlier ts))
unfolding entries_of end_to_end
entries-bytes_lem earlier [] l = none 256
entries-bytes_lem earlier (t ∷ ts) l =
    let e = length-append t (end_to_end ts) in
    two-more earlier _ (omega arith) (two-more (length t) _ (omega arith) (entries-bytes_lem (earlier + length t) ts (omega arith)))

edition-small : (a : ℕ) → edition_for a < 256
unfolding edition_for
edition-small a = by (ltb word a)
  where
    by : (t : Bool) → (when t then wide_edition else narrow_edition) < 256
    by true = omega arith
    by false = omega arith

pub written-bytes : (a : ℕ) (ts : List (List ℕ)) → WithinLimits a ts → all_below 256 (log_bytes a ts) ≡ true
unfolding log_bytes
written-bytes a ts w =
    let bodies : T (all_below 256 (end_to_end ts)) = wider a 256 _ (omega (arith, w.activities)) (true→T (below_all a ts w.below)) in
    let contents : T (all_below 256 (entries_of 0 ts)) = entries-bytes_lem 0 ts (omega (arith, w.events)) in
    T→true _
    (one-more_lem 256 66 _ (omega arith)
    (one-more_lem 256 76 _ (omega arith)
    (one-more_lem 256 (edition_for a) _ (edition-small a)
    (one-more_lem 256 a _ (omega (arith, w.activities))
    (two-more (length ts) _ (omega (arith, w.number)) (below-join 256 (entries_of 0 ts) (end_to_end ts) contents bodies))))))

-- Numbers in bytes: what is read where bytes are missing, what is stored, and what is read, put down again. Assumes nothing.
use mathlib.Core.Path.{◌≡◌, refl, sym, ap, ◌∙◌, subst}
use mathlib.Core.Bool.{Bool, true, false}
use mathlib.Core.List.{List, [], ◌∷◌}
use Prim.Native.Nat.{ℕ, zero, suc, ◌+◌, ◌*◌, ◌^◌, ◌≤◌, ◌<◌}
use native.Mathlib.Omega.{arith}
use borrow.Author.Tests.{le-ltb, ltb-true}
use lib.Dec.{ltb}
use lib.ListN.{length, get_or, take, drop, get_or-eq_default}
use lib.Seq.{sets, length-sets}
use Rattle.sets.specs.Tests.{when◌then◌else◌}
use Rattle.octets.specs.Numbers.{little_endian, value_of, number_at, number_length, number_put}
use Rattle.octets.proofs.Codec.{Bytes, bytes_drop, bytes_take, value-number, number-value, value-below}
use Rattle.octets.proofs.Parts.{part, length_part}

-- ---- a number of two bytes, byte by byte, where a missing byte counts as 0

at-start : (bytes : List ℕ) → value_of (take 2 bytes) ≡ get_or bytes 0 0 + 256 * get_or bytes 1 0
unfolding value_of
at-start [] = refl
at-start (x ∷ []) = refl
at-start (x ∷ y ∷ bytes) = omega arith

pub two-bytes_lem : (bytes : List ℕ) (i : ℕ) → number_at 2 bytes i ≡ get_or bytes i 0 + 256 * get_or bytes (i + 1) 0
unfolding number_at
two-bytes_lem bytes zero = at-start bytes
two-bytes_lem [] (suc i) = at-start []
two-bytes_lem (x ∷ bytes) (suc i) =
    let next : suc i + 1 ≡ suc (i + 1) = omega arith in
    two-bytes_lem bytes i ∙ ap (λ (n : ℕ). get_or bytes i 0 + 256 * get_or (x ∷ bytes) n 0) (sym next)

-- ---- ways through the code

pub byte_past : (bytes : List ℕ) (at : ℕ) → length bytes ≤ at → 0 ≡ get_or bytes at 0
byte_past bytes at h = sym (get_or-eq_default bytes 0 h)

module _ (bytes : List ℕ) (at : ℕ) (few : Bool) (e : few ≡ ltb (length bytes) (at + number_length)) where
  pub number-few : (b : ℕ) → few ≡ true → b ≡ get_or bytes at 0 → b ≡ number_at number_length bytes at
  number-few b h k =
      let short = ltb-true (length bytes) (at + number_length) (sym e ∙ h) in
      let none : get_or bytes (at + 1) 0 ≡ 0 = get_or-eq_default bytes 0 (omega arith) in
      omega (arith, two-bytes_lem bytes at)

  pub put-nothing : (x : ℕ) → few ≡ true → bytes ≡ number_put bytes at x
  unfolding number_put
  put-nothing x h = ap (λ (t : Bool). when t then bytes else sets bytes at (little_endian number_length x)) (sym (h) ∙ e)

  pub put_some : (x : ℕ) (bytes' : List ℕ) → few ≡ false → bytes' ≡ sets bytes at (little_endian number_length x) → bytes' ≡ number_put bytes at x
  unfolding number_put
  put_some x bytes' h k = k ∙ ap (λ (t : Bool). when t then bytes else sets bytes at (little_endian number_length x)) (sym (h) ∙ e)

pub ruleset numbering = (byte_past, number-few, put-nothing, put_some)

-- ---- where there is room

pub put-there : (bytes : List ℕ) (at x : ℕ) → at + number_length ≤ length bytes → number_put bytes at x ≡ sets bytes at (little_endian number_length x)
put-there bytes at x h = sym (put_some bytes at false (sym (le-ltb (length bytes) (at + number_length) h)) x _ refl refl)

pub length-put : (bytes : List ℕ) (at x : ℕ) → length (number_put bytes at x) ≡ length bytes
unfolding number_put
length-put bytes at x = by (ltb (length bytes) (at + number_length))
  where
    by : (t : Bool) → length (when t then bytes else sets bytes at (little_endian number_length x)) ≡ length bytes
    by true = refl
    by false = length-sets bytes at (little_endian number_length x)

-- a put is a store, and keeps the length
module _ (o o₁ : List ℕ) (at x : ℕ) (h : o₁ ≡ number_put o at x) where
  pub number-stored : at + number_length ≤ length o → o₁ ≡ sets o at (little_endian number_length x)
  number-stored room = h ∙ put-there o at x room

  pub number-kept : length o₁ ≡ length o
  number-kept = ap length h ∙ length-put o at x

-- ---- a number stands where its bytes stand

pub number_read : (l : List ℕ) (n at x : ℕ) → part l at n ≡ little_endian n x → x < 256 ^ n → number_at n l at ≡ x
unfolding number_at
number_read l n at x e h = ap value_of e ∙ value-number n x h

-- ---- what was read, put down again

module _ (l : List ℕ) (bytes : Bytes l) (at : ℕ) where
  pub part-number : (n : ℕ) → at + n ≤ length l → little_endian n (number_at n l at) ≡ part l at n
  unfolding number_at
  part-number n h =
      ap (λ (k : ℕ). little_endian k (value_of (part l at n))) (sym (length_part l at n h))
      ∙ number-value (part l at n) (bytes_take (drop at l) n (bytes_drop l at bytes))

  pub number-below : (n : ℕ) → at + n ≤ length l → number_at n l at < 256 ^ n
  unfolding number_at
  number-below n h =
      subst (λ (k : ℕ). value_of (part l at n) < 256 ^ k) (length_part l at n h)
      (value-below (part l at n) (bytes_take (drop at l) n (bytes_drop l at bytes)))

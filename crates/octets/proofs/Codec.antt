-- Numbers as bytes, at every width: the loops that read and write them, and both round trips. Assumes nothing.
use mathlib.Core.Path.{◌≡◌, refl, sym, ap, ap₂, ◌∙◌, subst}
use mathlib.Core.List.{List, [], ◌∷◌}
use Prim.Native.Nat.{ℕ, zero, suc, ◌+◌, ◌-◌, ◌*◌, ◌/◌, ◌%◌, ◌^◌, ◌≤◌, ◌<◌}
use native.Mathlib.Nat.{pow-suc, sub_self, lt_of_lt_of_le, pow-le-pow_right, add-zero, sub-zero}
use native.Mathlib.Omega.{arith}
use lib.Arith.{lt-one, digits_lt}
use lib.Dec.{lit<}
use lib.ListN.{length, get_or, take, drop, set}
use lib.Seq.{drop-cons, get_or-drop, sets}
use Rattle.octets.specs.Numbers.{little_endian, value_of, number_at}

-- ---- reading: from the highest byte down

number-suc : (m : ℕ) (bytes : List ℕ) (at : ℕ) → at < length bytes
    → number_at (suc m) bytes at ≡ get_or bytes at 0 + 256 * number_at m bytes (suc at)
unfolding number_at value_of
number-suc m bytes at h = ap (λ (l : List ℕ). value_of (take (suc m) l)) (drop-cons bytes at 0 h)

-- the bytes from `left` on have been read
pub number-none : (bytes : List ℕ) (at n : ℕ) → 0 ≡ number_at (n - n) bytes (at + n)
unfolding number_at value_of
number-none bytes at n = ap (λ (k : ℕ). number_at k bytes (at + n)) (sym (sub_self n))

pub number-turn : (bytes : List ℕ) (at n left value b : ℕ) → 0 < left → left ≤ n → at + n ≤ length bytes
    → value ≡ number_at (n - left) bytes (at + left) → b ≡ get_or bytes (at + (left - 1)) 0
    → value * 256 + b ≡ number_at (n - (left - 1)) bytes (at + (left - 1))
number-turn bytes at n left value b p l h v e =
    let wide : n - (left - 1) ≡ suc (n - left) = omega arith in
    let next : at + left ≡ suc (at + (left - 1)) = omega arith in
    let read = number-suc (n - left) bytes (at + (left - 1)) (omega arith) in
    let rest : value ≡ number_at (n - left) bytes (suc (at + (left - 1))) = v ∙ ap (number_at (n - left) bytes) next in
    let whole : value * 256 + b ≡ get_or bytes (at + (left - 1)) 0 + 256 * number_at (n - left) bytes (suc (at + (left - 1))) = omega arith in
    whole ∙ sym read ∙ ap (λ (k : ℕ). number_at k bytes (at + (left - 1))) (sym wide)

pub number-all : (bytes : List ℕ) (at n left value : ℕ) → left ≤ 0
    → value ≡ number_at (n - left) bytes (at + left) → value ≡ number_at n bytes at
number-all bytes at n left value z v =
    let a : n - left ≡ n = omega arith in
    let b : at + left ≡ at = omega arith in
    v ∙ ap₂ (λ (k p : ℕ). number_at k bytes p) a b

pub below_none : (n : ℕ) → 0 < 256 ^ (n - n)
below_none n = subst (λ (k : ℕ). 0 < 256 ^ k) (sym (sub_self n)) (lit< tt)

bytes_pow : (k : ℕ) → 256 ^ suc k ≡ 256 ^ k * 256
bytes_pow k = pow-suc 256 k

pub below-turn : (n left value b : ℕ) → 0 < left → left ≤ n → value < 256 ^ (n - left) → b < 256 → value * 256 + b < 256 ^ (n - (left - 1))
below-turn n left value b p l h s =
    let wide : n - (left - 1) ≡ suc (n - left) = omega arith in
    subst (λ (x : ℕ). value * 256 + b < x) (sym (ap (λ (k : ℕ). 256 ^ k) wide ∙ bytes_pow (n - left))) (digits_lt h s)

-- n is at most 8, so the next value fits 64 digits
pub turn-fits : (n left value b : ℕ) → 0 < left → left ≤ n → n ≤ 8 → value < 256 ^ (n - left) → b < 256 → value * 256 + b < 2 ^ 64
turn-fits n left value b p l e h s =
    let most : 256 ^ (n - (left - 1)) ≤ 256 ^ 8 = pow-le-pow_right (lit< tt) {i = n - (left - 1)} {j = 8} (omega arith) in
    lt_of_lt_of_le (below-turn n left value b p l h s) most

pub number-below : (n left value : ℕ) → left ≤ 0 → value < 256 ^ (n - left) → value < 256 ^ n
number-below n left value z h = let a : n - left ≡ n = omega arith in subst (λ (k : ℕ). value < 256 ^ k) a h

pub ruleset reading = (number-none, number-turn, number-all, below_none, below-turn, turn-fits, number-below)

-- ---- writing: from the lowest byte up; what is left to write, stored, gives the whole

pub put_all : (out : List ℕ) (at n x : ℕ) → sets out (at + 0) (little_endian (n - 0) x) ≡ sets out at (little_endian n x)
put_all out at n x = ap₂ (λ (p k : ℕ). sets out p (little_endian k x)) (add-zero at) (sub-zero n)

pub put-turn : (out whole : List ℕ) (at n i rest : ℕ) → i < n → sets out (at + i) (little_endian (n - i) rest) ≡ whole
    → sets (set out (at + i) (rest % 256)) (at + (i + 1)) (little_endian (n - (i + 1)) (rest / 256)) ≡ whole
unfolding little_endian
put-turn out whole at n i rest h e =
    let left : n - i ≡ suc (n - (i + 1)) = omega arith in
    let next : at + (i + 1) ≡ suc (at + i) = omega arith in
    ap (λ (p : ℕ). sets (set out (at + i) (rest % 256)) p (little_endian (n - (i + 1)) (rest / 256))) next
    ∙ ap (λ (k : ℕ). sets out (at + i) (little_endian k rest)) (sym left)
    ∙ e

pub put-none : (out whole : List ℕ) (at n i rest : ℕ) → n ≤ i → sets out (at + i) (little_endian (n - i) rest) ≡ whole → out ≡ whole
unfolding little_endian
put-none out whole at n i rest h e =
    let none : n - i ≡ 0 = omega arith in
    ap (λ (k : ℕ). sets out (at + i) (little_endian k rest)) (sym none) ∙ e

pub ruleset writing = (put_all, put-turn, put-none)

pub length-number : (n x : ℕ) → length (little_endian n x) ≡ n
unfolding little_endian
length-number zero x = refl
length-number (suc n) x = ap suc (length-number n _)

-- ---- the round trips

-- the members of a list are bytes
abbrev pub Bytes : List ℕ → Type 0
Bytes l = (k : ℕ) → get_or l k 0 < 256

pub bytes_drop : (l : List ℕ) (at : ℕ) → Bytes l → Bytes (drop at l)
bytes_drop l at h k = subst (λ (b : ℕ). b < 256) (sym (get_or-drop at l k 0)) (h (at + k))

pub bytes_take : (l : List ℕ) (n : ℕ) → Bytes l → Bytes (take n l)
bytes_take l zero h k = lit< tt
bytes_take [] (suc n) h k = h k
bytes_take (b ∷ l) (suc n) h zero = h 0
bytes_take (b ∷ l) (suc n) h (suc k) = bytes_take l n (λ i. h (suc i)) k

-- a number that fits n bytes, put down and read
pub value-number : (n x : ℕ) → x < 256 ^ n → value_of (little_endian n x) ≡ x
unfolding little_endian value_of
value-number zero x h = sym (lt-one h)
value-number (suc n) x h =
    let k : x < 256 ^ n * 256 = subst (λ (p : ℕ). x < p) (bytes_pow n) h in
    let high : value_of (little_endian n (x / 256)) ≡ x / 256 = value-number n (x / 256) (omega arith) in
    omega arith

-- bytes, read and put down
pub number-value : (l : List ℕ) → Bytes l → little_endian (length l) (value_of l) ≡ l
unfolding little_endian value_of
number-value [] h = refl
number-value (b ∷ l) h =
    let small : b < 256 = h 0 in
    let low : (b + 256 * value_of l) % 256 ≡ b = omega arith in
    let high : (b + 256 * value_of l) / 256 ≡ value_of l = omega arith in
    ap₂ ◌∷◌ low (ap (little_endian (length l)) high ∙ number-value l (λ k. h (suc k)))

pub value-below : (l : List ℕ) → Bytes l → value_of l < 256 ^ length l
unfolding value_of
value-below [] h = lit< tt
value-below (b ∷ l) h =
    let small : b < 256 = h 0 in
    let rest = value-below l (λ k. h (suc k)) in
    subst (λ (p : ℕ). b + 256 * value_of l < p) (sym (bytes_pow (length l))) (omega arith)

-- 02, 12/12: the tallies of two months, joined, are the tally of their traces taken together. What holds of joining any bytes: which comes
-- first does not matter, nor how three are grouped, and bytes joined with themselves stay. Assumes nothing.
use mathlib.Core.Path.{◌≡◌, refl, sym, ap, ap₂, ◌∙◌}
use mathlib.Core.Bool.{Bool, true, false}
use mathlib.Core.List.{List, [], ◌∷◌, ◌++◌}
use Prim.Native.Nat.{ℕ, zero, suc, ◌+◌, ◌-◌, ◌*◌, ◌/◌, ◌%◌, ◌≤◌, max}
use native.Mathlib.Nat.{le_refl, max_comm, zero-max, max-zero, suc-max-suc, max-le, max-eq_left}
use native.Mathlib.Omega.{arith}
use lib.Arith.{bin_ind}
use lib.Bits.{bit_or, or_step, or_shr, or_mod, or_lt, or_self, or_comm}
use lib.Dec.{ltb}
use lib.ListN.{length, set, length-set}
use lib.Seq.{set-get_or}
use Rattle.sets.specs.Tests.{◌or◌, when◌then◌else◌}
use Rattle.sets.specs.Members.{word, bits_of, those}
use Rattle.octets.specs.Numbers.{little_endian}
use Rattle.sets.proofs.Bits.{bits_of-lt, is-bits_of, bit-or, bit-bits_of}
use Rattle.octets.proofs.Codec.{length-number}
use Rattle.octets.specs.Sets.{word_length, set_bytes}
use Rattle.octets.proofs.SetLaws as set-laws
use Rattle.rules.specs.Traces.{Traces}
use Rattle.rules.specs.Mining.{event, before, precedes, answers, chained, alternates, followed, between}
use Rattle.months.specs.Layout.{tally_width, set_count, first_row, rows_end, first_pair, sets_from, activities_in}
use Rattle.months.specs.Tallies.{asked, held, tally_of}
use Rattle.months.specs.Months.{bytes_or, joined}
use Rattle.months.proofs.Bytewise.{length-or}
use Rattle.months.proofs.Holding.{activities-held}
use Rattle.promises.proofs.Together.{some-together, broken-together}

-- ---- any bytes

max_assoc : (a b c : ℕ) → max (max a b) c ≡ max a (max b c)
max_assoc zero b c = ap (λ (n : ℕ). max n c) (zero-max b) ∙ sym (zero-max (max b c))
max_assoc (suc a) zero c = ap (λ (n : ℕ). max n c) (max-zero (suc a)) ∙ ap (max (suc a)) (sym (zero-max c))
max_assoc (suc a) (suc b) zero = max-zero (max (suc a) (suc b)) ∙ ap (max (suc a)) (sym (max-zero (suc b)))
max_assoc (suc a) (suc b) (suc c) =
    ap (λ (n : ℕ). max n (suc c)) (suc-max-suc a b)
    ∙ suc-max-suc (max a b) c
    ∙ ap suc (max_assoc a b c)
    ∙ sym (suc-max-suc a (max b c))
    ∙ ap (max (suc a)) (sym (suc-max-suc b c))

-- the lowest digit of either
or-odd : (a b : ℕ) → bit_or a b % 2 ≡ max (a % 2) (b % 2)
or-odd a b =
    let low : max (a % 2) (b % 2) ≤ 1 = max-le (omega arith) (omega arith) in
    ap (λ (n : ℕ). n % 2) (or_step a b) ∙ omega arith

bits-assoc : (a b c : ℕ) → bit_or (bit_or a b) c ≡ bit_or a (bit_or b c)
bits-assoc a =
    bin_ind (λ (n : ℕ). (b c : ℕ) → bit_or (bit_or n b) c ≡ bit_or n (bit_or b c)) (λ b c. refl)
    (λ n ih b c.
    or_step (bit_or n b) c
    ∙ ap₂ (λ (x y : ℕ). bit_or x (c / 2) * 2 + max y (c % 2)) (or_shr n b 1) (or-odd n b)
    ∙ ap₂ (λ (x y : ℕ). x * 2 + y) (ih (b / 2) (c / 2)) (max_assoc (n % 2) (b % 2) (c % 2))
    ∙ sym (ap₂ (λ (x y : ℕ). bit_or (n / 2) x * 2 + max (n % 2) y) (or_shr b c 1) (or-odd b c))
    ∙ sym (or_step n (bit_or b c))) a

bytes-comm : (s t : List ℕ) → bytes_or s t ≡ bytes_or t s
unfolding bytes_or
bytes-comm [] [] = refl
bytes-comm [] (y ∷ t) = refl
bytes-comm (x ∷ s) [] = refl
bytes-comm (x ∷ s) (y ∷ t) = ap₂ ◌∷◌ (or_comm x y) (bytes-comm s t)

bytes-assoc : (s t u : List ℕ) → bytes_or (bytes_or s t) u ≡ bytes_or s (bytes_or t u)
unfolding bytes_or
bytes-assoc [] t u = refl
bytes-assoc (x ∷ s) [] u = refl
bytes-assoc (x ∷ s) (y ∷ t) [] = refl
bytes-assoc (x ∷ s) (y ∷ t) (z ∷ u) = ap₂ ◌∷◌ (bits-assoc x y z) (bytes-assoc s t u)

bytes-self : (s : List ℕ) → bytes_or s s ≡ s
unfolding bytes_or
bytes-self [] = refl
bytes-self (x ∷ s) = ap₂ ◌∷◌ (or_self x) (bytes-self s)

pub joined-comm : (s t : List ℕ) → joined s t ≡ joined t s
unfolding joined
joined-comm s t = ap₂ (λ (l : List ℕ) (n : ℕ). set l 0 n) (bytes-comm s t) (max_comm (activities_in s) (activities_in t))

pub joined-assoc : (s t u : List ℕ) → joined (joined s t) u ≡ joined s (joined t u)
unfolding joined bytes_or
joined-assoc [] t u = refl
joined-assoc (x ∷ s) [] u = refl
joined-assoc (x ∷ s) (y ∷ t) [] = refl
joined-assoc (x ∷ s) (y ∷ t) (z ∷ u) = ap₂ ◌∷◌ (max_assoc x y z) (bytes-assoc s t u)

pub joined-self : (s : List ℕ) → joined s s ≡ s
unfolding joined
joined-self s =
    ap₂ (λ (l : List ℕ) (n : ℕ). set l 0 n) (bytes-self s) (max-eq_left (le_refl (activities_in s))) ∙ set-get_or s 0 0

pub joined_length : (s t : List ℕ) → length s ≡ length t → length (joined s t) ≡ length s
unfolding joined
joined_length s t e = length-set (bytes_or s t) 0 _ ∙ length-or s t e

-- ---- bytes of sets

bytes-append : (a b s t : List ℕ) → length a ≡ length b → bytes_or (a ++ s) (b ++ t) ≡ bytes_or a b ++ bytes_or s t
unfolding bytes_or
bytes-append [] [] s t e = refl
bytes-append [] (y ∷ b) s t e = absurd (omega arith)
bytes-append (x ∷ a) [] s t e = absurd (omega arith)
bytes-append (x ∷ a) (y ∷ b) s t e = ap (λ (l : List ℕ). bit_or x y ∷ l) (bytes-append a b s t (omega arith))

numbers-or : (n x y : ℕ) → bytes_or (little_endian n x) (little_endian n y) ≡ little_endian n (bit_or x y)
unfolding bytes_or little_endian
numbers-or zero x y = refl
numbers-or (suc n) x y =
    ap₂ ◌∷◌ (sym (or_mod x y 8)) (numbers-or n (x / 256) (y / 256) ∙ ap (little_endian n) (sym (or_shr x y 8)))

sets-or : (p q : ℕ → Bool) → bytes_or (set_bytes false (those p)) (set_bytes false (those q)) ≡ set_bytes false (those (λ x. p x or q x))
unfolding set_bytes those bytes_or
sets-or p q =
    bytes-append (little_endian word_length (bits_of word p)) (little_endian word_length (bits_of word q)) [] []
    (length-number word_length (bits_of word p) ∙ sym (length-number word_length (bits_of word q)))
    ∙ ap (λ (l : List ℕ). l ++ [])
    (numbers-or word_length (bits_of word p) (bits_of word q)
    ∙ ap (little_endian word_length)
    (is-bits_of word (bit_or (bits_of word p) (bits_of word q)) (λ x. p x or q x)
    (or_lt word (bits_of word p) (bits_of word q) (bits_of-lt word p) (bits_of-lt word q))
    (λ x l. bit-or (bits_of word p) (bits_of word q) x ∙ ap₂ ◌or◌ (bit-bits_of word p x l) (bit-bits_of word q x l))))

module _ (p q : ℕ → ℕ → Bool) where
  all-or : (n w : ℕ)
      → bytes_or (sets_from n w (λ v. those (p v))) (sets_from n w (λ v. those (q v))) ≡ sets_from n w (λ v. those (λ x. p v x or q v x))
  unfolding bytes_or sets_from
  all-or zero w = refl
  all-or (suc n) w =
      bytes-append (set_bytes false (those (p w))) (set_bytes false (those (q w))) _ _
      (set-laws.length-set false (those (p w)) ∙ sym (set-laws.length-set false (those (q w))))
      ∙ ap₂ ◌++◌ (sets-or (p w) (q w)) (all-or n (suc w))

-- ---- what a tally holds, of the traces of both

module _ (L M : Traces) where
  asked-together : (k a x : ℕ) → asked (L ++ M) k a x ≡ (asked L k a x or asked M k a x)
  unfolding before precedes answers chained alternates followed
  asked-together zero a x = some-together _ L M
  asked-together (suc zero) a x = some-together _ L M
  asked-together (suc (suc zero)) a x = broken-together _ L M
  asked-together (suc (suc (suc zero))) a x = broken-together _ L M
  asked-together (suc (suc (suc (suc zero)))) a x = broken-together _ L M
  asked-together (suc (suc (suc (suc (suc zero))))) a x = broken-together _ L M
  asked-together (suc (suc (suc (suc (suc (suc k)))))) a x = some-together _ L M

  event-together : (x : ℕ) → event (L ++ M) x ≡ (event L x or event M x)
  unfolding event
  event-together x = some-together _ L M

  between-together : (u x s : ℕ) → between (L ++ M) u x s ≡ (between L u x s or between M u x s)
  unfolding between
  between-together u x s = some-together _ L M

  held-together : (w x : ℕ) → held (L ++ M) w x ≡ (held L w x or held M w x)
  unfolding held ◌or◌
  held-together w x = by (ltb w 1) (ltb w first_row) (ltb w rows_end) (ltb w first_pair)
    where
      -- by the five kinds of sets
      at : Bool → Bool → Bool → Bool → Traces → Bool
      at a b c d N =
          when a then false
          else when b then event N x
          else when c then asked N ((w - first_row) / tally_width) ((w - first_row) % tally_width) x
          else when d then false
          else between N ((w - first_pair) / tally_width) x ((w - first_pair) % tally_width)

      by : (a b c d : Bool) → at a b c d (L ++ M) ≡ (at a b c d L or at a b c d M)
      by true b c d = refl
      by false true c d = event-together x
      by false false true d = asked-together ((w - first_row) / tally_width) ((w - first_row) % tally_width) x
      by false false false true = refl
      by false false false false = between-together ((w - first_pair) / tally_width) x ((w - first_pair) % tally_width)

-- ---- tallies

-- what is put first over either does not show under what is put first over both
first-put : (s t : List ℕ) (a b c : ℕ) → set (bytes_or (set s 0 a) (set t 0 b)) 0 c ≡ set (bytes_or s t) 0 c
unfolding bytes_or
first-put [] t a b c = refl
first-put (x ∷ s) [] a b c = refl
first-put (x ∷ s) (y ∷ t) a b c = refl

-- THE THEOREM: the larger A, and the traces taken together
pub tallies-joined : (A B : ℕ) (L M : Traces) → joined (tally_of A L) (tally_of B M) ≡ tally_of (max A B) (L ++ M)
unfolding joined tally_of
tallies-joined A B L M =
    ap (λ (n : ℕ). set (bytes_or (tally_of A L) (tally_of B M)) 0 n) (ap₂ max (activities-held L A) (activities-held M B))
    ∙ first-put (sets_from set_count 0 (λ w. those (held L w))) (sets_from set_count 0 (λ w. those (held M w))) A B (max A B)
    ∙ ap (λ (l : List ℕ). set l 0 (max A B)) (all-or (held L) (held M) set_count 0)
    ∙ sym (λ i. set (sets_from set_count 0 (λ w. those (λ x. held-together L M w x i))) 0 (max A B))

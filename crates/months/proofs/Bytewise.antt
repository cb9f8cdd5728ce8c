-- Two lists joined byte by byte: one byte further, and all of them. Assumes nothing.
use mathlib.Core.Path.{◌≡◌, refl, sym, ap, ap₂, ◌∙◌}
use mathlib.Core.List.{List, [], ◌∷◌, ◌++◌, append_assoc, append-nil}
use Prim.Native.Nat.{ℕ, suc, ◌+◌, ◌≤◌, ◌<◌}
use native.Mathlib.Numerals.{add-one}
use native.Mathlib.Omega.{arith}
use lib.Bits.{bit_or}
use lib.ListN.{length, get_or, set, take, drop, drop_of_length-le}
use lib.Seq.{take_all, take-suc, drop-cons, length-take-le, set_at, get_or_at}
use Rattle.months.specs.Months.{bytes_or}

pub length-or : (xs ys : List ℕ) → length xs ≡ length ys → length (bytes_or xs ys) ≡ length xs
unfolding bytes_or
length-or [] ys h = refl
length-or (x ∷ xs) [] h = absurd (omega arith)
length-or (x ∷ xs) (y ∷ ys) h = ap suc (length-or xs ys (omega arith))

or-snoc : (xs ys : List ℕ) (x y : ℕ) → length xs ≡ length ys → bytes_or (xs ++ x ∷ []) (ys ++ y ∷ []) ≡ bytes_or xs ys ++ bit_or x y ∷ []
unfolding bytes_or
or-snoc [] [] x y h = refl
or-snoc [] (b ∷ ys) x y h = absurd (omega arith)
or-snoc (a ∷ xs) [] x y h = absurd (omega arith)
or-snoc (a ∷ xs) (b ∷ ys) x y h = ap (λ (l : List ℕ). bit_or a b ∷ l) (or-snoc xs ys x y (omega arith))

-- the first i bytes are joined, the others are as they were
abbrev pub or_to : List ℕ → List ℕ → ℕ → List ℕ
or_to t o i = bytes_or (take i t) (take i o) ++ drop i t

pub or-start : (t o : List ℕ) → t ≡ or_to t o 0
unfolding bytes_or
or-start t o = refl

module _ (t₀ o : List ℕ) (i : ℕ) (h : i < length t₀) (k : i < length o) where
  as_long : length (bytes_or (take i t₀) (take i o)) ≡ i
  as_long =
      length-or (take i t₀) (take i o) (length-take-le i t₀ (omega arith) ∙ sym (length-take-le i o (omega arith)))
      ∙ length-take-le i t₀ (omega arith)

  pub or_turn : (t t' : List ℕ) → t ≡ or_to t₀ o i → t' ≡ set t i (bit_or (get_or t i 0) (get_or o i 0)) → t' ≡ or_to t₀ o (i + 1)
  or_turn t t' e p =
      let same : t ≡ bytes_or (take i t₀) (take i o) ++ get_or t₀ i 0 ∷ drop (suc i) t₀ =
      e ∙ ap (λ (l : List ℕ). bytes_or (take i t₀) (take i o) ++ l) (drop-cons t₀ i 0 h) in
      let here : get_or t i 0 ≡ get_or t₀ i 0 =
      ap (λ (l : List ℕ). get_or l i 0) same ∙ get_or_at (bytes_or (take i t₀) (take i o)) (get_or t₀ i 0) (drop (suc i) t₀) 0 i as_long in
      p
      ∙ ap₂ (λ (l : List ℕ) (n : ℕ). set l i (bit_or n (get_or o i 0))) same here
      ∙ set_at (bytes_or (take i t₀) (take i o)) (get_or t₀ i 0) (drop (suc i) t₀) (bit_or (get_or t₀ i 0) (get_or o i 0)) i as_long
      ∙ sym (append_assoc (bytes_or (take i t₀) (take i o)) (bit_or (get_or t₀ i 0) (get_or o i 0) ∷ []) (drop (suc i) t₀))
      ∙ ap (λ (l : List ℕ). l ++ drop (suc i) t₀)
      (sym (or-snoc (take i t₀) (take i o) (get_or t₀ i 0) (get_or o i 0)
      (length-take-le i t₀ (omega arith) ∙ sym (length-take-le i o (omega arith))))
      ∙ ap₂ bytes_or (sym (take-suc t₀ i 0 h)) (sym (take-suc o i 0 k)))
      ∙ ap (or_to t₀ o) (sym (add-one i))

-- all of them
pub or-end : (t o : List ℕ) (i : ℕ) (out : List ℕ) → length t ≡ length o → length o ≤ i → out ≡ or_to t o i → out ≡ bytes_or t o
or-end t o i out e g h =
    h
    ∙ (λ j. bytes_or (take_all i t (omega arith) j) (take_all i o g j) ++ drop_of_length-le t {i = i} (omega arith) j)
    ∙ append-nil (bytes_or t o)

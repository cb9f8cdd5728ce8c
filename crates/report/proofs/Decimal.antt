-- What `decimal` writes is the number: its figures read back give it, and the first is no zero, but for 0 itself. Assumes nothing.
use mathlib.Core.Path.{◌≡◌, refl, sym, subst, ◌∙◌}
use mathlib.Core.Bool.{Bool, true, false}
use mathlib.Core.List.{List, [], ◌∷◌, ◌++◌}
use Prim.Native.Nat.{ℕ, zero, suc, ◌+◌, ◌-◌, ◌*◌, ◌/◌, ◌^◌, ◌<◌}
use native.Mathlib.Omega.{arith}
use borrow.Author.Tests.{ltb-true, ltb-false}
use lib.Dec.{ltb}
use lib.ListN.{length, get_or, get_or-append}
use Rattle.sets.specs.Tests.{when◌then◌else◌}
use Rattle.report.specs.Lines.{figure, figures, decimal}
use Rattle.report.proofs.Figures.{tenth}

-- the number that figures stand for, after those that were read
value_after : ℕ → List ℕ → ℕ
value_after n [] = n
value_after n (d ∷ ds) = value_after (n * 10 + (d - 48)) ds

pub value : List ℕ → ℕ
value ds = value_after 0 ds

value-last : (n : ℕ) (ds : List ℕ) (d : ℕ) → value_after n (ds ++ (d ∷ [])) ≡ value_after n ds * 10 + (d - 48)
unfolding value_after
value-last n [] d = refl
value-last n (x ∷ ds) d = value-last (n * 10 + (x - 48)) ds d

reads : (k n : ℕ) → n < 10 ^ k → value (figures k n) ≡ n
unfolding figures value value_after
reads zero n l = omega arith
reads (suc k) n l = by (ltb n 10) refl (reads k (n / 10) (tenth n k l))
  where
    by : (b : Bool) → ltb n 10 ≡ b → value (figures k (n / 10)) ≡ n / 10
        → value ((when b then [] else figures k (n / 10)) ++ (figure n ∷ [])) ≡ n
    by true e ih = let h = ltb-true n 10 e in omega arith
    by false e ih = value-last 0 (figures k (n / 10)) (figure n) ∙ (let q : value_after 0 (figures k (n / 10)) ≡ n / 10 = ih in omega arith)

-- no zero in front
front : (k n : ℕ) → 0 < n → n < 10 ^ k → 48 < get_or (figures k n) 0 0
unfolding figures
front zero n p l = absurd (omega arith)
front (suc k) n p l = by (ltb n 10) refl (λ h. front k (n / 10) h (tenth n k l))
  where
    some : (ds : List ℕ) → 48 < get_or ds 0 0 → 0 < length ds
    some [] h = absurd (omega arith)
    some (d ∷ ds) h = omega arith

    by : (b : Bool) → ltb n 10 ≡ b → (0 < n / 10 → 48 < get_or (figures k (n / 10)) 0 0)
        → 48 < get_or ((when b then [] else figures k (n / 10)) ++ (figure n ∷ [])) 0 0
    by true e ih = let h = ltb-true n 10 e in omega arith
    by false e ih =
        let h = ltb-false n 10 e in
        let t : 0 < n / 10 = omega arith in
        subst (λ (x : ℕ). 48 < x) (sym (get_or-append (figures k (n / 10)) (figure n ∷ []) 0 0 (some (figures k (n / 10)) (ih t))))
        (ih t)

-- THE THEOREMS, for the numbers of a listing and more
pub decimal-reads : (n : ℕ) → n < 100000 → value (decimal n) ≡ n
decimal-reads n l = reads 5 n l

pub decimal-front : (n : ℕ) → 0 < n → n < 100000 → 48 < get_or (decimal n) 0 0
decimal-front n p l = front 5 n p l

-- What bytes open with, place by place. Assumes nothing.
use mathlib.Core.Path.{◌≡◌, refl, ap, ap₂, ◌∙◌}
use mathlib.Core.Bool.{Bool, true, false, ◌&&◌}
use mathlib.Core.List.{List, [], ◌∷◌}
use Prim.Native.Nat.{ℕ}
use lib.Dec.{T, eqb, eqb→eq, leb, leb-zero, leb-suc-zero, leb-suc-suc}
use lib.ListN.{length, take}
use Rattle.std.specs.List.{starts_with, list_all, zip}
pub use Rattle.std.proofs.lemmas.Iterator.{YieldsList-from_slice, YieldsList-from_zip}
pub use Rattle.std.proofs.lemmas.Iterator.Search.{all_from_yields_List}
use Rattle.sets.specs.Tests.{◌and◌}
use Rattle.sets.proofs.Tests.{and_l, and_r, and_is, eqb-sym}
use Rattle.octets.specs.Opens.{opens_with}

-- the library's test is the same
pub opens-starts : (mark bytes : List ℕ) → starts_with eqb bytes mark ≡ opens_with mark bytes
unfolding opens_with ◌and◌
opens-starts [] bytes = refl
opens-starts (x ∷ xs) [] = refl
opens-starts (x ∷ xs) (b ∷ bytes) = and_is (eqb x b) _ ∙ ap₂ ◌and◌ (eqb-sym x b) (opens-starts xs bytes)

-- so is the question of each byte beside its letter, where the letters are no more than the bytes
module _ where
  abbrev all_same : List ℕ → List ℕ → Bool
  all_same mark bytes = list_all (λ (p : ℕ × ℕ). eqb p.0 p.1) (zip bytes mark)

  asked-apart : (f e a : Bool) → (f && (e && a)) ≡ (e and (f && a))
  unfolding ◌and◌
  asked-apart f true a = refl
  asked-apart true false a = refl
  asked-apart false false a = refl

  each-is : (mark bytes : List ℕ) → (leb (length mark) (length bytes) && all_same mark bytes) ≡ opens_with mark bytes
  unfolding opens_with
  each-is [] [] = ap (λ (t : Bool). t && true) (leb-zero 0)
  each-is [] (b ∷ bytes) = ap (λ (t : Bool). t && true) (leb-zero (length (b ∷ bytes)))
  each-is (x ∷ xs) [] = ap (λ (t : Bool). t && true) (leb-suc-zero (length xs))
  each-is (x ∷ xs) (b ∷ bytes) =
      ap (λ (t : Bool). t && (eqb b x && all_same xs bytes)) (leb-suc-suc (length xs) (length bytes))
      ∙ asked-apart _ (eqb b x) _
      ∙ ap (λ (t : Bool). eqb b x and t) (each-is xs bytes)

  -- as the code would ask it; the lemmas that are handed on say what its iterator gives
  pub opens-zipped : (mark bytes : List ℕ) (all : Bool) → all ≡ all_same mark bytes
      → (leb (length mark) (length bytes) && all) ≡ opens_with mark bytes
  opens-zipped mark bytes all h = ap (λ (t : Bool). leb (length mark) (length bytes) && t) h ∙ each-is mark bytes

-- what that tells of the bytes
pub opens-is : (xs bytes : List ℕ) → T (opens_with xs bytes) → take (length xs) bytes ≡ xs
unfolding opens_with
opens-is [] bytes t = refl
opens-is (x ∷ xs) [] t = absurd t
opens-is (x ∷ xs) (b ∷ bytes) t = ap₂ ◌∷◌ (eqb→eq b x (and_l _ _ t)) (opens-is xs bytes (and_r _ _ t))

-- Parts of bytes: n of them from a place on. Parts that meet are one part; what is stored is read again, and does not show elsewhere; a store,
-- then the next one, is both. Assumes nothing.
use mathlib.Core.Path.{◌≡◌, refl, sym, ap, ap₂, ◌∙◌}
use mathlib.Core.Logic.{◌≢◌, ◌⊎◌, inl, inr}
use mathlib.Core.List.{List, [], ◌∷◌, ◌++◌}
use Prim.Native.Nat.{ℕ, zero, suc, ◌+◌, ◌-◌, ◌≤◌, ◌<◌, zero-le, suc-le-suc}
use native.Mathlib.Nat.{add-zero, add-suc, suc-add}
use native.Mathlib.Omega.{arith}
use lib.ListN.{length, get_or, take, drop, set, length-append, length-drop}
use lib.Seq.{sets, sets-eq, drop_at, take_at, drop-append-le, drop-cons, take-add, drop-drop, take_all, drop-set-lt, drop-set-add, take-set-le, get_or-set_other, length-take-le}

abbrev pub part : List ℕ → ℕ → ℕ → List ℕ
part l at n = take n (drop at l)

pub meet : (l x y : List ℕ) (at n next m : ℕ) → next ≡ at + n → x ≡ part l at n → y ≡ part l next m → x ++ y ≡ part l at (n + m)
meet l x y at n next m e f g =
    ap₂ ◌++◌ f (g ∙ ap (λ (k : ℕ). take m (drop k l)) e ∙ ap (take m) (sym (drop-drop n at l))) ∙ sym (take-add n m (drop at l))

pub length_part : (l : List ℕ) (at n : ℕ) → at + n ≤ length l → length (part l at n) ≡ n
length_part l at n h = length-take-le n (drop at l) (rw length-drop (omega arith))

take_short : (n : ℕ) (l : List ℕ) → length (take n l) ≤ length l
take_short zero l = zero-le
take_short (suc n) [] = zero-le
take_short (suc n) (x ∷ l) = suc-le-suc (take_short n l)

-- a part of full length is all there
pub part_room : (l : List ℕ) (at n : ℕ) → length (part l at n) ≡ n → 0 < n → at + n ≤ length l
part_room l at n e p = omega (arith, take_short n (drop at l), length-drop at l)

pub part-whole : (l : List ℕ) (n : ℕ) → length l ≡ n → part l 0 n ≡ l
part-whole l n e = take_all n l (omega arith)

pub part-one : (l : List ℕ) (at : ℕ) → at < length l → (get_or l at 0 ∷ []) ≡ part l at 1
part-one l at h = ap (take 1) (sym (drop-cons l at 0 h))

-- ---- a store, and the next one after it

sets-append : (vs ws l : List ℕ) (i : ℕ) → sets (sets l i vs) (i + length vs) ws ≡ sets l i (vs ++ ws)
sets-append [] ws l i = ap (λ (k : ℕ). sets l k ws) (add-zero i)
sets-append (v ∷ vs) ws l i =
    ap (λ (k : ℕ). sets (sets (set l i v) (suc i) vs) k ws) (add-suc i (length vs) ∙ sym (suc-add i (length vs)))
    ∙ sets-append vs ws (set l i v) (suc i)

pub follow : (out mid end vs ws : List ℕ) (at next : ℕ) → next ≡ at + length vs → mid ≡ sets out at vs → end ≡ sets mid next ws
    → end ≡ sets out at (vs ++ ws)
follow out mid end vs ws at next e f g = g ∙ (λ i. sets (f i) (e i) ws) ∙ sets-append vs ws out at

-- ---- what is stored does not show elsewhere

-- n bytes from `at` on that end before k bytes from i on, or begin after them
abbrev pub Apart : ℕ → ℕ → ℕ → ℕ → Type 0
Apart at n i k = (at + n ≤ i) ⊎ (i + k ≤ at)

part-set : (l : List ℕ) (at n i v : ℕ) → at + n ≤ i → part (set l i v) at n ≡ part l at n
part-set l at n i v h =
    let there : i ≡ at + (i - at) = omega arith in
    ap (λ (k : ℕ). take n (drop at (set l k v))) there
    ∙ ap (take n) (drop-set-add at l (i - at) v)
    ∙ take-set-le n (drop at l) (i - at) v (omega arith)

part-before : (vs l : List ℕ) (at n i : ℕ) → at + n ≤ i → part (sets l i vs) at n ≡ part l at n
part-before [] l at n i h = refl
part-before (v ∷ vs) l at n i h = part-before vs (set l i v) at n (suc i) (omega arith) ∙ part-set l at n i v h

drop-after : (vs l : List ℕ) (at i : ℕ) → i + length vs ≤ at → drop at (sets l i vs) ≡ drop at l
drop-after [] l at i h = refl
drop-after (v ∷ vs) l at i h =
    drop-after vs (set l i v) at (suc i) (omega arith) ∙ drop-set-lt at l i v (omega arith)

pub part_apart : (l : List ℕ) (at n i : ℕ) (vs : List ℕ) → Apart at n i (length vs) → part (sets l i vs) at n ≡ part l at n
part_apart l at n i vs (inl h) = part-before vs l at n i h
part_apart l at n i vs (inr h) = ap (take n) (drop-after vs l at i h)

pub get_or-apart : (l : List ℕ) (at i : ℕ) (vs : List ℕ) → Apart at 1 i (length vs) → get_or (sets l i vs) at 0 ≡ get_or l at 0
get_or-apart l at i [] h = refl
get_or-apart l at i (v ∷ vs) h =
    get_or-apart (set l i v) at (suc i) vs (later h) ∙ get_or-set_other l i at v 0 (elsewhere h)
  where
    later : Apart at 1 i (suc (length vs)) → Apart at 1 (suc i) (length vs)
    later (inl a) = inl (omega arith)
    later (inr b) = inr (omega arith)

    elsewhere : Apart at 1 i (suc (length vs)) → at ≢ i
    elsewhere (inl a) e = absurd (omega arith)
    elsewhere (inr b) e = absurd (omega arith)

-- ---- what is stored is there

pub drop-stored : (l : List ℕ) (at : ℕ) (vs : List ℕ) → at + length vs ≤ length l → drop at (sets l at vs) ≡ vs ++ drop (at + length vs) l
drop-stored l at vs h =
    let front : length (take at l) ≡ at = length-take-le at l (omega arith) in
    ap (drop at) (sets-eq vs l at h)
    ∙ drop-append-le at (take at l ++ vs) (drop (at + length vs) l) (simp length-append (omega arith))
    ∙ ap (λ (k : List ℕ). k ++ drop (at + length vs) l) (drop_at (take at l) vs at front)

pub part-stored : (l : List ℕ) (at n : ℕ) (vs : List ℕ) → length vs ≡ n → at + n ≤ length l → part (sets l at vs) at n ≡ vs
part-stored l at n vs e h = ap (take n) (drop-stored l at vs (omega arith)) ∙ take_at vs (drop (at + length vs) l) n e

-- Traces laid end to end: lengths, members, and where each stands. Assumes nothing.
use mathlib.Core.Path.{◌≡◌, refl, sym, ap, ◌∙◌}
use mathlib.Core.Bool.{true}
use mathlib.Core.List.{List, [], ◌∷◌, ◌++◌, append_assoc}
use Prim.Native.Nat.{ℕ, zero, suc, ◌<◌, suc-le-suc}
use native.Mathlib.Nat.{not-suc-le-zero, le_of_suc-le-suc, zero-lt-suc}
use lib.Dec.{T, ltb}
use lib.ListN.{length, get_or, take, drop, length-append}
use lib.Seq.{take-append_seam, drop-append-add}
use Rattle.sets.proofs.Tests.{and_l, and_r, and_i, T→true, true→T}
use Rattle.calllog.specs.Judged.{all_below}
use Rattle.calllog.specs.Written.{end_to_end}

-- ---- members below a, of lists that are joined

below_split : (a : ℕ) (xs ys : List ℕ) → T (all_below a (xs ++ ys)) → T (all_below a xs) × T (all_below a ys)
unfolding all_below
below_split a [] ys t = (tt, t)
below_split a (x ∷ xs) ys t =
    let r = below_split a xs ys (and_r (ltb x a) _ t) in
    (and_i (ltb x a) _ (and_l (ltb x a) _ t) r.0, r.1)

pub below-join : (a : ℕ) (xs ys : List ℕ) → T (all_below a xs) → T (all_below a ys) → T (all_below a (xs ++ ys))
unfolding all_below
below-join a [] ys s t = t
below-join a (x ∷ xs) ys s t = and_i (ltb x a) _ (and_l (ltb x a) _ s) (below-join a xs ys (and_r (ltb x a) _ s) t)

pub below_each : (a : ℕ) (ts : List (List ℕ)) → all_below a (end_to_end ts) ≡ true → (k : ℕ) → k < length ts → all_below a (get_or ts k []) ≡ true
unfolding end_to_end
below_each a [] e k l = absurd (not-suc-le-zero l)
below_each a (t ∷ ts) e zero l = T→true _ (below_split a t (end_to_end ts) (true→T e)).0
below_each a (t ∷ ts) e (suc k) l = below_each a ts (T→true _ (below_split a t (end_to_end ts) (true→T e)).1) k (le_of_suc-le-suc l)

pub below_all : (a : ℕ) (ts : List (List ℕ)) → ((k : ℕ) → k < length ts → all_below a (get_or ts k []) ≡ true) → all_below a (end_to_end ts) ≡ true
unfolding end_to_end all_below
below_all a [] f = refl
below_all a (t ∷ ts) f =
    T→true _ (below-join a t (end_to_end ts) (true→T (f 0 (zero-lt-suc _))) (true→T (below_all a ts (λ k l. f (suc k) (suc-le-suc l)))))

-- ---- a trace among the traces laid end to end

pub end-append : (ss ts : List (List ℕ)) → end_to_end (ss ++ ts) ≡ end_to_end ss ++ end_to_end ts
unfolding end_to_end
end-append [] ts = refl
end-append (s ∷ ss) ts = ap (λ (l : List ℕ). s ++ l) (end-append ss ts) ∙ sym (append_assoc s (end_to_end ss) (end_to_end ts))

-- cut out where the earlier ones end, at its length, it is the trace
pub cut : (ts : List (List ℕ)) (k : ℕ) → k < length ts
    → take (length (get_or ts k [])) (drop (length (end_to_end (take k ts))) (end_to_end ts)) ≡ get_or ts k []
unfolding end_to_end
cut [] k l = absurd (not-suc-le-zero l)
cut (t ∷ ts) zero l = take-append_seam t (end_to_end ts)
cut (t ∷ ts) (suc k) l =
    ap (λ (n : ℕ). take (length (get_or ts k [])) (drop n (t ++ end_to_end ts))) (length-append t (end_to_end (take k ts)))
    ∙ ap (take (length (get_or ts k []))) (drop-append-add t (end_to_end ts) (length (end_to_end (take k ts))))
    ∙ cut ts k (le_of_suc-le-suc l)

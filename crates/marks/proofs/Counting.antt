-- The counts, one trace after another. Assumes nothing.
use mathlib.Core.Path.{◌≡◌, refl, sym, ap, ap₂, subst, ◌∙◌}
use mathlib.Core.Bool.{Bool, true, false}
use mathlib.Core.List.{List, [], ◌∷◌, ◌++◌}
use Prim.Native.Nat.{ℕ, suc, ◌+◌, ◌≤◌, ◌<◌}
use native.Mathlib.Numerals.{add-one}
use native.Mathlib.Omega.{arith}
use lib.ListN.{length, length-append}
use Rattle.sets.specs.Tests.{◌and◌, non}
use Rattle.sets.specs.Sizes.{most_traces}
use Rattle.sets.specs.Members.{digit, count_below}
use Rattle.sets.proofs.Below.{count-ext, count-le, count-last}
use Rattle.marks.specs.declared.counts.Counts.{Counts}
use Rattle.marks.specs.Counts.{counts_by, no_counts, counts_of, one_more, counted_of, Few}

-- ---- the four ways of a trace

module _ (c : Counts) (v l : Bool) where
  by_kind : (t s : Bool) → v ≡ t → l ≡ s → counted_of c t s ≡ counted_of c v l
  by_kind t s ev el = sym (ap₂ (counted_of c) ev el)

  pub hit : v ≡ true → l ≡ true
      → counts_by (c.true_positives + 1) c.false_positives c.false_negatives c.true_negatives ≡ counted_of c v l
  unfolding counted_of ◌and◌ non
  hit ev el = by_kind true true ev el

  pub slip : v ≡ true → l ≡ false
      → counts_by c.true_positives (c.false_positives + 1) c.false_negatives c.true_negatives ≡ counted_of c v l
  unfolding counted_of ◌and◌ non
  slip ev el = by_kind true false ev el

  pub miss : v ≡ false → l ≡ true
      → counts_by c.true_positives c.false_positives (c.false_negatives + 1) c.true_negatives ≡ counted_of c v l
  unfolding counted_of ◌and◌ non
  miss ev el = by_kind false true ev el

  pub pass : v ≡ false → l ≡ false
      → counts_by c.true_positives c.false_positives c.false_negatives (c.true_negatives + 1) ≡ counted_of c v l
  unfolding counted_of ◌and◌ non
  pass ev el = by_kind false false ev el

pub ruleset kinds = (hit, slip, miss, pass)

one-digit : (b : Bool) (n : ℕ) → one_more b n ≡ n + digit b
one-digit true n = refl
one-digit false n = omega arith

-- how many below k + 1, by how many below k
count-on : (k : ℕ) (p : ℕ → Bool) → one_more (p k) (count_below k p) ≡ count_below (suc k) p
count-on k p = one-digit (p k) (count_below k p) ∙ sym (count-last k p)

-- ---- a loop over the traces

pub count-first : (v l : ℕ → Bool) → no_counts ≡ counts_of 0 v l
unfolding counts_of count_below
count-first v l = refl

module _ (v l : ℕ → Bool) (k : ℕ) (c : Counts) (e : c ≡ counts_of k v l) where
  pub few : (n : ℕ) → k < n → n ≤ most_traces → Few c
  unfolding counts_of
  few n h m = subst Few (sym e) (
      record {
        hits = omega (arith, count-le k (λ a. v a and l a));
        slips = omega (arith, count-le k (λ a. v a and non (l a)));
        missed = omega (arith, count-le k (λ a. non (v a) and l a));
        passed = omega (arith, count-le k (λ a. non (v a) and non (l a)));
      })

  pub count_turn : (b : Bool) (c' : Counts) → b ≡ v k → c' ≡ counted_of c b (l k) → c' ≡ counts_of (k + 1) v l
  unfolding counts_of counted_of
  count_turn b c' eb h =
      h
      ∙ ap₂ (λ (x : Counts) (t : Bool). counted_of x t (l k)) e eb
      ∙ (λ i. counts_by (count-on k (λ a. v a and l a) i) (count-on k (λ a. v a and non (l a)) i)
      (count-on k (λ a. non (v a) and l a) i) (count-on k (λ a. non (v a) and non (l a)) i))
      ∙ ap (λ (n : ℕ). counts_of n v l) (sym (add-one k))

pub ruleset counting = (count-first, few, count_turn)

-- the same where a loop has yielded xs
pub count-yielded : {A : Type 0} (xs : List A) (x : A) (v l : ℕ → Bool) (c c' : Counts) (b : Bool) → c ≡ counts_of (length xs) v l
    → b ≡ v (length xs) → c' ≡ counted_of c b (l (length xs)) → c' ≡ counts_of (length (xs ++ (x ∷ []))) v l
count-yielded xs x v l c c' b e eb h =
    let next : length xs + 1 ≡ length (xs ++ (x ∷ [])) = omega (arith, length-append xs (x ∷ [])) in
    count_turn v l (length xs) c e b c' eb h ∙ ap (λ (n : ℕ). counts_of n v l) next

-- ---- the same tests below n give the same counts

pub counts-ext : (n : ℕ) (v v' l : ℕ → Bool) → ((k : ℕ) → k < n → v k ≡ v' k) → counts_of n v l ≡ counts_of n v' l
unfolding counts_of
counts-ext n v v' l e = λ i. counts_by
    (count-ext n (λ k. v k and l k) (λ k. v' k and l k) (λ k h. ap (λ (b : Bool). b and l k) (e k h)) i)
    (count-ext n (λ k. v k and non (l k)) (λ k. v' k and non (l k)) (λ k h. ap (λ (b : Bool). b and non (l k)) (e k h)) i)
    (count-ext n (λ k. non (v k) and l k) (λ k. non (v' k) and l k) (λ k h. ap (λ (b : Bool). non b and l k) (e k h)) i)
    (count-ext n (λ k. non (v k) and non (l k)) (λ k. non (v' k) and non (l k)) (λ k h. ap (λ (b : Bool). non b and non (l k)) (e k h)) i)

-- The pass over a trace: one pair that gains, all pairs of a place, one place further, one trace further. Assumes nothing.
use mathlib.Core.Path.{◌≡◌, refl, sym, ap, ◌∙◌}
use mathlib.Core.Bool.{Bool, true, false}
use mathlib.Core.List.{List}
use Prim.Native.Nat.{ℕ, zero, suc, ◌+◌, ◌*◌, ◌≤◌, ◌<◌}
use native.Mathlib.Nat.{add-zero, add-suc, suc-add, zero-add}
use native.Mathlib.Numerals.{add-one}
use borrow.Author.Tests.{lt-ltb, le-ltb, ltb-true}
use lib.Dec.{eqb, ltb}
use lib.ListN.{length}
use Rattle.sets.specs.Tests.{◌and◌, ◌or◌}
use Rattle.sets.specs.declared.set.Set.{Set}
use Rattle.sets.proofs.Tests.{true→T, and_l, T→true, or-false, or_assoc, false-or, true-and, false-and}
use Rattle.octets.specs.Sets.{set_length, set_at, set_put}
use Rattle.octets.proofs.SetLaws.{length-put}
use Rattle.rules.specs.Traces.{◌has◌, at_some, some_trace}
use Rattle.rules.specs.Mining.{between}
use Rattle.tally.specs.Passes.{walked}
use Rattle.calllog.specs.Logs.{part_at}
use Rattle.months.specs.Layout.{tally_width, set_in}
use Rattle.months.specs.Pairs.{Pairs, Gained}
use Rattle.months.proofs.Packed.{packed-ext}

-- ---- laws of what is gained

pub gained-none : (t : List ℕ) (more : Pairs) → ((u s v : ℕ) → u < tally_width → s < tally_width → v < tally_width → more u s v ≡ false) → Gained t more t
gained-none t more none base p tail h =
    h ∙ packed-ext base p _ tail (λ u s v lu ls lv. sym (ap (λ (b : Bool). p u s v or b) (none u s v lu ls lv) ∙ or-false (p u s v)))

pub gained-as : (t t' : List ℕ) (more other : Pairs) → ((u s v : ℕ) → u < tally_width → s < tally_width → v < tally_width → more u s v ≡ other u s v)
    → Gained t more t' → Gained t other t'
gained-as t t' more other e g base p tail h =
    g base p tail h ∙ packed-ext base _ _ tail (λ u s v lu ls lv. ap (λ (b : Bool). p u s v or b) (e u s v lu ls lv))

pub gained-both : (t t' t'' : List ℕ) (one two : Pairs) → Gained t one t' → Gained t' two t'' → Gained t (λ u s v. one u s v or two u s v) t''
gained-both t t' t'' one two g k base p tail h =
    k base _ tail (g base p tail h) ∙ packed-ext base _ _ tail (λ u s v lu ls lv. or_assoc (p u s v) (one u s v) (two u s v))

-- ---- one pair

pub at_set : (tally : List ℕ) (w w' : ℕ) (r : Set) → w ≡ w' → r ≡ set_at false tally (set_length false * w) → r ≡ set_in tally w'
at_set tally w w' r e h = h ∙ ap (set_in tally) e

pub put-length : (tally out : List ℕ) (at : ℕ) (s : Set) → out ≡ set_put false tally at s → length out ≡ length tally
put-length tally out at s h = ap length h ∙ length-put false tally at s

-- ---- whether it is the last place

pub last-inside : (e x i : ℕ) → e < tally_width → eqb x i ≡ (ltb e tally_width and eqb x i)
last-inside e x i l = sym (ap (λ (b : Bool). b and eqb x i) (lt-ltb e tally_width l) ∙ true-and (eqb x i))

pub last-outside : (e x i : ℕ) → tally_width ≤ e → false ≡ (ltb e tally_width and eqb x i)
last-outside e x i g = sym (ap (λ (b : Bool). b and eqb x i) (le-ltb e tally_width g) ∙ false-and (eqb x i))

module _ (t t' : List ℕ) (r b : Bool) (more : Pairs) (hr : r ≡ b) where
  pub where-last : r ≡ true → Gained t more t' → Gained t (λ u x v. b and more u x v) t'
  where-last y g = gained-as t t' more _ (λ u x v lu lx lv. sym (ap (λ (c : Bool). c and more u x v) (sym hr ∙ y) ∙ true-and (more u x v))) g

pub where-not : (t : List ℕ) (r b : Bool) (more : Pairs) → r ≡ b → r ≡ false → Gained t (λ u x v. b and more u x v) t
where-not t r b more hr n = gained-none t _ (λ u x v lu lx lv. ap (λ (c : Bool). c and more u x v) (sym hr ∙ n) ∙ false-and (more u x v))

pub last-low : (e x i : ℕ) (r : Bool) → r ≡ (ltb e tally_width and eqb x i) → r ≡ true → e < tally_width
last-low e x i r h y = ltb-true e tally_width (T→true _ (and_l _ _ (true→T (sym h ∙ y))))

-- ---- one trace further

module _ (log : List ℕ) (q : List ℕ → Bool) where
  some-snoc : (n j : ℕ) → some_trace (walked log (suc n) j) q ≡ (some_trace (walked log n j) q or q (part_at log (j + n)))
  unfolding walked some_trace
  some-snoc zero j = or-false _ ∙ ap (λ (k : ℕ). q (part_at log k)) (sym (add-zero j)) ∙ sym (false-or _)
  some-snoc (suc n) j =
      ap (λ (b : Bool). q (part_at log j) or b) (some-snoc n (suc j) ∙ ap (λ (k : ℕ). some_trace (walked log n (suc j)) q or q (part_at log k))
      (suc-add j n ∙ sym (add-suc j n)))
      ∙ sym (or_assoc (q (part_at log j)) (some_trace (walked log n (suc j)) q) (q (part_at log (j + suc n))))

  some_next : (k : ℕ) → some_trace (walked log (k + 1) 0) q ≡ (some_trace (walked log k 0) q or q (part_at log k))
  some_next k =
      ap (λ (n : ℕ). some_trace (walked log n 0) q) (add-one k) ∙ some-snoc k 0
      ∙ ap (λ (n : ℕ). some_trace (walked log k 0) q or q (part_at log n)) (zero-add k)

-- what stands between, in the first k parts
abbrev pub between_to : List ℕ → ℕ → Pairs
between_to log k u s v = between (walked log k 0) u v s

module _ (log : List ℕ) where
  pub traces-start : (t : List ℕ) → Gained t (between_to log 0) t
  unfolding between walked some_trace
  traces-start t = gained-none t (between_to log 0) (λ u s v lu ls lv. refl)

  pub traces-turn : (k : ℕ) (σ t₀ t t' : List ℕ) → σ ≡ part_at log k → Gained t₀ (between_to log k) t
      → Gained t (λ u s v. at_some v (λ past rest. past has u and rest has s) σ) t' → Gained t₀ (between_to log (k + 1)) t'
  unfolding between
  traces-turn k σ t₀ t t' e g n =
      gained-as t₀ t' _ (between_to log (k + 1))
      (λ u s v lu ls lv.
      ap (λ (τ : List ℕ). between_to log k u s v or at_some v (λ past rest. past has u and rest has s) τ) e
      ∙ sym (some_next log (at_some v (λ past rest. past has u and rest has s)) k))
      (gained-both t₀ t t' (between_to log k) _ g n)

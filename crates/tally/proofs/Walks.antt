-- A walk over the parts of a log's bytes: one part further, and the end. Assumes nothing.
use Rattle.sets.specs.Members.{no_set, mem, those}
use mathlib.Core.Path.{◌≡◌, sym, ap, ◌∙◌}
use mathlib.Core.Bool.{Bool}
use mathlib.Core.List.{List, [], ◌∷◌}
use Prim.Native.Nat.{ℕ, suc, ◌+◌, ◌-◌, ◌≤◌, ◌<◌}
use native.Mathlib.Omega.{arith}
use native.Mathlib.Numerals.{add-one}
use Rattle.sets.specs.Tests.{◌and◌, ◌or◌, non}
use Rattle.sets.specs.declared.set.Set.{Set}
use Rattle.sets.proofs.Members.{those-ext, those-of, mem-none}
use Rattle.sets.proofs.Tests.{and-false, or-false, false-or}
use Rattle.sets.proofs.Tautologies.{by4}
use Rattle.calllog.specs.Logs.{part_at}
use Rattle.rules.specs.Traces.{Traces, ◌has◌, some_trace}
use Rattle.tally.specs.Passes.{through, walked, reaches, event_in}

module _ (log : List ℕ) (n k : ℕ) where
  pub walked_next : k < n → walked log (n - k) k ≡ part_at log k ∷ walked log (n - (k + 1)) (k + 1)
  unfolding walked
  walked_next h =
      let one : n - k ≡ suc (n - (k + 1)) = omega arith in
      ap (λ (m : ℕ). walked log m k) one ∙ ap (λ (m : ℕ). part_at log k ∷ walked log (n - (k + 1)) m) (sym (add-one k))

  pub walked_end : n ≤ k → walked log (n - k) k ≡ []
  unfolding walked
  walked_end h = let none : n - k ≡ 0 = omega arith in ap (λ (m : ℕ). walked log m k) none

pub walked_start : (log : List ℕ) (n : ℕ) → walked log (n - 0) 0 ≡ walked log n 0
walked_start log n = let same : n - 0 ≡ n = omega arith in ap (λ (m : ℕ). walked log m 0) same

-- a pass over each part
module _ (pass : List ℕ → List ℕ → List ℕ) (log : List ℕ) (n : ℕ) (all : List ℕ) where
  pub through-start : (rows : List ℕ) → through pass rows (walked log n 0) ≡ all → through pass rows (walked log (n - 0) 0) ≡ all
  through-start rows h = ap (through pass rows) (walked_start log n) ∙ h

  pub through-next : (k : ℕ) (σ rows rows' : List ℕ) → k < n → σ ≡ part_at log k → rows' ≡ pass rows σ
      → through pass rows (walked log (n - k) k) ≡ all → through pass rows' (walked log (n - (k + 1)) (k + 1)) ≡ all
  unfolding through
  through-next k σ rows rows' h e hr inv =
      ap (λ (r : List ℕ). through pass r (walked log (n - (k + 1)) (k + 1))) (hr ∙ ap (pass rows) e)
      ∙ ap (through pass rows) (sym (walked_next log n k h))
      ∙ inv

  pub through-end : (k : ℕ) (rows : List ℕ) → n ≤ k → through pass rows (walked log (n - k) k) ≡ all → rows ≡ all
  unfolding through
  through-end k rows h inv = ap (through pass rows) (sym (walked_end log n k h)) ∙ inv

-- what is left of a walk at part k, from the rows as they are, gives the whole walk
abbrev pub Left : (List ℕ → List ℕ → List ℕ) → List ℕ → ℕ → ℕ → List ℕ → List ℕ → Type 0
Left pass log n k rows₀ rows = through pass rows (walked log (n - k) k) ≡ through pass rows₀ (walked log n 0)

-- the events of a walk: those so far, and those to come
abbrev pub events_from : Bool → Set → Traces → Set
events_from wide events L = those (λ x. mem events x or event_in wide L x)

module _ (wide : Bool) (log : List ℕ) (n k : ℕ) (all : Set) where
  pub events-next : (σ : List ℕ) (events events' : Set) → k < n → σ ≡ part_at log k → events' ≡ those (λ x. mem events x or reaches wide x and σ has x)
      → events_from wide events (walked log (n - k) k) ≡ all → events_from wide events' (walked log (n - (k + 1)) (k + 1)) ≡ all
  unfolding some_trace event_in
  events-next σ events events' h e hv inv =
      let L = walked log (n - (k + 1)) (k + 1) in
      those-of events' (λ x. mem events x or reaches wide x and part_at log k has x) (λ x t. t or event_in wide L x)
      (hv ∙ ap (λ (l : List ℕ). those (λ x. mem events x or reaches wide x and l has x)) e)
      ∙ those-ext (λ x. mem events x or reaches wide x and part_at log k has x or event_in wide L x)
      (λ x. mem events x or event_in wide (part_at log k ∷ L) x)
      (λ x l.
      by4 (λ m r p q. m or r and p or r and q) (λ m r p q. m or r and (p or q)) (unfold ◌and◌ ◌or◌ non in tt) (mem events x) (reaches wide x)
      (part_at log k has x) (some_trace L (λ σ. σ has x)))
      ∙ ap (events_from wide events) (sym (walked_next log n k h))
      ∙ inv

  pub events-end : (events : Set) → those (mem events) ≡ events → n ≤ k → events_from wide events (walked log (n - k) k) ≡ all → events ≡ all
  unfolding some_trace event_in
  events-end events is h inv =
      sym is
      ∙ those-ext (mem events) (λ x. mem events x or event_in wide [] x)
      (λ x l. sym (ap (λ (t : Bool). mem events x or t) (and-false (reaches wide x)) ∙ or-false (mem events x)))
      ∙ ap (events_from wide events) (sym (walked_end log n k h))
      ∙ inv

pub events-start : (wide : Bool) (log : List ℕ) (n : ℕ) → events_from wide no_set (walked log (n - 0) 0) ≡ those (event_in wide (walked log n 0))
events-start wide log n =
    ap (events_from wide no_set) (walked_start log n)
    ∙ those-ext (λ x. mem no_set x or event_in wide (walked log n 0) x) (event_in wide (walked log n 0))
    (λ x l. ap (λ (t : Bool). t or event_in wide (walked log n 0) x) (mem-none x) ∙ false-or _)

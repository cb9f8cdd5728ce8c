-- Demand 3 for a log given as bytes: for every accepted file, the empty trace and each trace of the file replay on the graph mined of it,
-- in both profiles.
-- (A refused file gives A 0 and no trace, so nothing has to be asked of the bytes.) Assumes nothing.
use mathlib.Core.Path.{◌≡◌, refl, sym, subst}
use mathlib.Core.Logic.{inl, inr}
use mathlib.Core.List.{List, [], ◌∷◌, Memᴰ}
use Prim.Native.Nat.{ℕ, zero, suc, ◌<◌, ◌≤◌, suc-le-suc}
use native.Mathlib.Nat.{zero-lt-suc, le_of_suc-le-suc, not-suc-le-zero}
use lib.Dec.{T, eqb→eq, ltb→lt}
use lib.ListN.{length, get_or}
use Rattle.sets.proofs.Tests.{and_l, and_r, or-e, true→T, either}
use Rattle.sets.specs.Sizes.{longest_trace}
use Rattle.calllog.specs.Judged.{all_below}
use Rattle.calllog.specs.Logs.{log_of}
use Rattle.calllog.proofs.Traces.{read-within}
use Rattle.rules.specs.declared.Profile.{Profile}
use Rattle.rules.specs.Traces.{Traces, ◌has◌}
use Rattle.rules.specs.Replays.{Accepted, AllReplay}
use Rattle.rules.proofs.Demand3.{demand3}

-- a trace of a log has a number, and the trace of that number is of the log
numbered : (L : Traces) {σ : List ℕ} → Memᴰ σ L → (k : ℕ) × (k < length L) × (get_or L k [] ≡ σ)
numbered [] {σ = σ} m = elim m [ ]
numbered (τ ∷ L) (Memᴰ.head e) = (0, zero-lt-suc (length L), sym e)
numbered (τ ∷ L) (Memᴰ.tail m) = let r = numbered L m in (suc r.0, suc-le-suc r.1, r.2)

trace-of_lem : (L : Traces) (k : ℕ) → k < length L → Memᴰ (get_or L k []) L
trace-of_lem [] k l = absurd (not-suc-le-zero l)
trace-of_lem (τ ∷ L) zero l = Memᴰ.head refl
trace-of_lem (τ ∷ L) (suc k) l = Memᴰ.tail (trace-of_lem L k (le_of_suc-le-suc l))

below_of : (A : ℕ) (σ : List ℕ) (a : ℕ) → T (all_below A σ) → T (σ has a) → a < A
unfolding all_below ◌has◌
below_of A [] a b h = absurd h
below_of A (x ∷ σ) a b h =
    either (or-e _ _ h)
    (λ e. subst (λ (y : ℕ). y < A) (sym (eqb→eq a x e)) (ltb→lt x A (and_l _ _ b)))
    (λ k. below_of A σ a (and_r _ _ b) k)

module _ (bytes : List ℕ) where
  abbrev A : ℕ
  A = (log_of bytes).activities

  abbrev L : Traces
  L = (log_of bytes).traces

  -- what a file says keeps to the limits
  pub file-accepted : Accepted A L
  file-accepted =
      let w = read-within bytes in
      record {
        activities = w.activities;
        lengths = λ σ m. let r = numbered L m in subst (λ (τ : List ℕ). length τ ≤ longest_trace) r.2 (w.lengths r.0 r.1);
        members = λ σ m a h.
            let r = numbered L m in
            below_of A σ a (subst (λ (τ : List ℕ). T (all_below A τ)) r.2 (true→T (w.below r.0 r.1))) h;
      }

  -- THE THEOREM, for a file
  pub demand3-file : (p : Profile) → AllReplay A L p
  demand3-file p =
      record {
        empty = demand3 A L p file-accepted [] (inr refl);
        each = λ k l. demand3 A L p file-accepted (get_or L k []) (inl (trace-of_lem L k l));
      }

-- The answers of the public functions, and a replay one event further. Assumes nothing.
use mathlib.Core.Path.{◌≡◌, refl, sym, ap, ap₂, ◌∙◌}
use mathlib.Core.Bool.{Bool, true, false}
use mathlib.Core.List.{List, [], ◌∷◌}
use Prim.Native.Nat.{ℕ, suc, ◌+◌, ◌≤◌, ◌<◌}
use native.Mathlib.Numerals.{add-one}
use lib.ListN.{length, get_or, drop, drop_of_length-le}
use lib.Seq.{drop-cons}
use Rattle.sets.specs.Tests.{◌and◌, when◌then◌else◌}
use Rattle.sets.specs.Answers.{is_done}
use Rattle.sets.specs.declared.set.Set.{Set}
use Rattle.sets.specs.declared.answer.Answer.{Answer}
use Rattle.sets.specs.declared.answer.Answer.TheVariants.{Done}
use Rattle.engine.specs.declared.marking.State.{State}
use Rattle.engine.specs.declared.marking.Marking.{Marking}
use Rattle.engine.specs.declared.step.Stepped.{Stepped}
use Rattle.engine.specs.declared.step.Verdict.{Verdict}
use Rattle.engine.specs.declared.replay.Replayed.{Replayed}
use Rattle.engine.specs.declared.replay.Walked.{Walked}
use Rattle.engine.specs.Markings.{empty_marking}
use Rattle.engine.specs.Relations.{Relations}
use Rattle.engine.specs.Steps.{enabled, after, accepting}
use Rattle.engine.specs.Enabled.{marked}
use Rattle.engine.specs.Replay.{stepped_by, ending, walked_of, replay_from}
use Rattle.sets.proofs.Ways.{failed, held, taken, passed-by, stops-l, goes}

-- what an answer's test tells of the answer that the definition has
undone : (x a : Answer) (r : Bool) → a ≡ x → r ≡ is_done a → r ≡ false → false ≡ is_done x
undone x a r h k t = failed (is_done x) r (k ∙ ap is_done h) t

done : (x a : Answer) (r : Bool) → a ≡ x → r ≡ is_done a → r ≡ true → true ≡ is_done x
done x a r h k t = held (is_done x) r (k ∙ ap is_done h) t

-- a step by its answer
module _ (a : Answer) (r : Bool) (k : r ≡ is_done a) where
  pub step-refused : (m m' : Marking) → r ≡ false
      → ◌≡◌ {A = Stepped} (record { answer = a; marking = m }) (record { answer = a; marking = when is_done a then m' else m })
  step-refused m m' t j = record { answer = a; marking = passed-by (is_done a) m' m m (undone a a r refl k t) refl j }

  pub step-done : (m n : Marking) (events : Set) (q : Relations) (s s' : State) → r ≡ true → s' ≡ s → n ≡ marked events q s'
      → ◌≡◌ {A = Stepped} (record { answer = a; marking = n }) (record { answer = a; marking = when is_done a then marked events q s else m })
  step-done m n events q s s' t hs e j =
      record { answer = a; marking = taken (is_done a) (marked events q s) m n (done a a r refl k t) (e ∙ ap (marked events q) hs) j }

pub stepped-as : (x a : Answer) (events : Set) (q : Relations) (m : Marking) (e : ℕ) (r : Stepped) → a ≡ x → r ≡ stepped_by a events q m e
    → r ≡ stepped_by x events q m e
stepped-as x a events q m e r h k = k ∙ ap (λ (b : Answer). stepped_by b events q m e) h

-- x is the answer that the definition has, a the one that the code was given
module _ (x a : Answer) (r : Bool) (h : a ≡ x) (k : r ≡ is_done a) where
  pub verdict-refused : (y : Bool) → r ≡ false
      → ◌≡◌ {A = Verdict} (record { answer = a; accepting = false }) (record { answer = x; accepting = is_done x and y })
  verdict-refused y t j = record { answer = h j; accepting = stops-l (is_done x) y (undone x a r h k t) j }

  pub verdict-done : (y s : Bool) → r ≡ true → s ≡ y
      → ◌≡◌ {A = Verdict} (record { answer = a; accepting = s }) (record { answer = x; accepting = is_done x and y })
  verdict-done y s t e j = record { answer = h j; accepting = goes (is_done x) y s (done x a r h k t) e j }

  pub replay-refused : (R : Replayed) → r ≡ false → ending a 0 empty_marking false ≡ when is_done x then R else ending x 0 empty_marking false
  replay-refused R t =
      ap (λ (b : Answer). ending b 0 empty_marking false) h ∙ passed-by (is_done x) R _ _ (undone x a r h k t) refl

  pub replay-done : (R S : Replayed) → r ≡ true → S ≡ R → S ≡ when is_done x then R else ending x 0 empty_marking false
  replay-done R S t e = taken (is_done x) R _ S (done x a r h k t) e

-- ---- the replay

module _ (events : Set) (q : Relations) (s : State) (n : ℕ) (trace : List ℕ) (R : Replayed) where
  -- the next event's part of the replay
  opened : n < length trace → replay_from events q s n (drop n trace) ≡ R
      → (when is_done (enabled events q s (get_or trace n 0)) then replay_from events q (after q s (get_or trace n 0)) (n + 1)
      (drop (suc n) trace)
      else ending (enabled events q s (get_or trace n 0)) n (marked events q s) false)
      ≡ R
  unfolding replay_from
  opened l inv = ap (replay_from events q s n) (sym (drop-cons trace n 0 l)) ∙ inv

  module _ (a : Answer) (t : Bool) (l : n < length trace) (ha : a ≡ enabled events q s (get_or trace n 0)) (ht : t ≡ is_done a) where
    pub run-next : (s' : State) → t ≡ true → s' ≡ after q s (get_or trace n 0) → replay_from events q s n (drop n trace) ≡ R
        → replay_from events q s' (n + 1) (drop (n + 1) trace) ≡ R
    run-next s' z hs inv =
        ap (λ (k : ℕ). replay_from events q s' (n + 1) (drop k trace)) (add-one n)
        ∙ ap (λ (k : State). replay_from events q k (n + 1) (drop (suc n) trace)) hs
        ∙ taken (is_done (enabled events q s (get_or trace n 0))) _ _ _ (done _ a t ha ht z) refl
        ∙ opened l inv

    pub run-stop : (m : Marking) → m ≡ marked events q s → t ≡ false → replay_from events q s n (drop n trace) ≡ R → ending a n m false ≡ R
    run-stop m hm z inv =
        ap₂ (λ (b : Answer) (k : Marking). ending b n k false) ha hm
        ∙ passed-by (is_done (enabled events q s (get_or trace n 0))) _ _ _ (undone _ a t ha ht z) refl
        ∙ opened l inv

    pub walk-stop : t ≡ false → replay_from events q s n (drop n trace) ≡ R → walked_of (ending a n (marked events q s) false) ≡ walked_of R
    walk-stop z inv = ap walked_of (run-stop (marked events q s) refl z inv)

  pub run_end : (m : Marking) (y : Bool) → length trace ≤ n → m ≡ marked events q s → y ≡ accepting s
      → replay_from events q s n (drop n trace) ≡ R → ending Done n m y ≡ R
  unfolding replay_from
  run_end m y l hm h inv =
      ap₂ (λ (k : Marking) (b : Bool). ending Done n k b) hm h ∙ ap (replay_from events q s n) (sym (drop_of_length-le trace l)) ∙ inv

  pub walk_end : (y : Bool) → length trace ≤ n → y ≡ accepting s → replay_from events q s n (drop n trace) ≡ R
      → walked_of (ending Done n (marked events q s) y) ≡ walked_of R
  walk_end y l h inv = ap walked_of (run_end (marked events q s) y l refl h inv)

-- the marking that a replay gives back is its state's
pub ran-marked : (events : Set) (q : Relations) (s : State) (i : ℕ) (σ : List ℕ)
    → marked events q (replay_from events q s i σ).marking.state ≡ (replay_from events q s i σ).marking
unfolding replay_from
ran-marked events q s i [] = refl
ran-marked events q s i (e ∷ σ) = by (is_done (enabled events q s e)) (ran-marked events q (after q s e) (i + 1) σ)
  where
    by : (t : Bool)
        → marked events q (replay_from events q (after q s e) (i + 1) σ).marking.state ≡ (replay_from events q (after q s e) (i + 1) σ).marking
        → marked events q
        (when t then replay_from events q (after q s e) (i + 1) σ else ending (enabled events q s e) i (marked events q s) false).marking.state
        ≡ (when t then replay_from events q (after q s e) (i + 1) σ else ending (enabled events q s e) i (marked events q s) false).marking
    by true rest = rest
    by false rest = refl

-- so what was walked is replayed once the set is worked out
pub walked-run : (events : Set) (q : Relations) (s : State) (σ : List ℕ) (w : Walked) (m : Marking) → w ≡ walked_of (replay_from events q s 0 σ)
    → m ≡ marked events q w.state
    → ◌≡◌ {A = Replayed} (record { answer = w.answer; place = w.place; marking = m; accepting = w.accepting }) (replay_from events q s 0 σ)
walked-run events q s σ w m hw hm i =
    record {
      answer = (hw i).answer;
      place = (hw i).place;
      marking = (hm ∙ ap (λ (x : Walked). marked events q x.state) hw ∙ ran-marked events q s 0 σ) i;
      accepting = (hw i).accepting;
    }

-- Finishing sequences, and which of two comes first (02, 8/12).
use Rattle.std.specs.Prelude.{Bool, true, false, List, [], ◌∷◌, ◌≡◌, ℕ, ◌≤◌, ◌<◌, T, eqb, ltb, length, get_or}
use Rattle.sets.specs.Tests.{◌and◌, ◌or◌}
use Rattle.sets.specs.Members.{mem}
use Rattle.sets.specs.Answers.{is_done}
use Rattle.sets.specs.declared.set.Set.{Set}
use Rattle.engine.specs.declared.marking.State.{State}
use Rattle.engine.specs.Relations.{Relations}
use Rattle.engine.specs.Steps.{enabled, after, accepting}
use Rattle.finish.specs.Ways.{most_steps, unused}

-- "each enabled in its turn, after which the call is accepting", by 01's step rules
unfoldable pub finishes : Set → Relations → State → List ℕ → Bool
finishes events r m [] = accepting m
finishes events r m (a ∷ σ) = is_done (enabled events r m a) and finishes events r (after r m a) σ

-- "the first by activity numbers, read from the left": σ is τ or comes before it
unfoldable pub no_later : List ℕ → List ℕ → Bool
no_later [] τ = true
no_later (a ∷ σ) [] = false
no_later (a ∷ σ) (b ∷ τ) = ltb a b or eqb a b and no_later σ τ

-- σ is the way out from m
pub record WayOut (events : Set) (r : Relations) (m : State) (σ : List ℕ) : Type 0 where
  -- "a sequence of at most 4 activities, each enabled in its turn, after which the call is accepting"
  pub few : length σ ≤ most_steps
  pub finishing : T (finishes events r m σ)
  -- each of its places holds an event, so none of them 255
  pub used : (k : ℕ) → k < length σ → T (mem events (get_or σ k unused))
  -- "the shortest wins"
  pub shortest : (τ : List ℕ) → T (finishes events r m τ) → length σ ≤ length τ
  -- "and among equally short ones the first by activity numbers, read from the left"
  pub first : (τ : List ℕ) → T (finishes events r m τ) → length τ ≡ length σ → T (no_later σ τ)

-- "no such sequence of 4 or fewer steps exists"
abbrev pub NoWay : Set → Relations → State → Type 0
NoWay events r m = (σ : List ℕ) → length σ ≤ most_steps → T (finishes events r m σ) → ⊥

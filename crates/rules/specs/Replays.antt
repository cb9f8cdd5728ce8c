-- Demand 3: what it takes for granted of a log, and what it says of a replay.
use Rattle.std.specs.Prelude.{◌≡◌, true, ℕ, ◌<◌, ◌≤◌, T, length, get_or}
use mathlib.Core.List.{List, [], Memᴰ}
use Rattle.sets.specs.declared.answer.Answer.TheVariants.{Done}
use Rattle.engine.specs.declared.graph.Graph.{Graph}
use Rattle.sets.specs.Members.{no_set}
use Rattle.sets.specs.Sizes.{most_activities, longest_trace}
use Rattle.engine.specs.Replay.{replay_of}
use Rattle.rules.specs.declared.Profile.{Profile}
use Rattle.rules.specs.Traces.{Traces, ◌has◌}
use Rattle.rules.specs.Mined.{mined_graph}

-- what acceptance tells of a log with A activities (01, "Sizes", and number 5): neither A nor a trace is too long, and each event is below A
pub record Accepted (A : ℕ) (L : Traces) : Type 0 where
  pub activities : A ≤ most_activities
  pub lengths : (σ : List ℕ) → Memᴰ σ L → length σ ≤ longest_trace
  pub members : (σ : List ℕ) → Memᴰ σ L → (a : ℕ) → T (σ has a) → a < A

-- the engine's replay of the trace, from the graph's opening marking, is done: no event was refused in its turn; it got to the trace's
-- length; no step is pending, included or not; and so the marking is accepting
pub record Replays (g : Graph) (σ : List ℕ) : Type 0 where
  pub done : (replay_of g σ).answer ≡ Done
  pub whole : (replay_of g σ).place.0 ≡ length σ
  pub settled : (replay_of g σ).marking.state.pending ≡ no_set
  pub accepted : (replay_of g σ).accepting ≡ true

-- so it is for the empty trace and for each trace of the log, by its number, on the graph mined of the log in the profile
pub record AllReplay (A : ℕ) (L : Traces) (p : Profile) : Type 0 where
  pub empty : Replays (mined_graph A L p) []
  pub each : (k : ℕ) → k < length L → Replays (mined_graph A L p) (get_or L k [])

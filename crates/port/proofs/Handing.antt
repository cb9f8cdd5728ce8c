-- What the calls of the plain engine's functions ensure, put together. Assumes nothing.
use mathlib.Core.Path.{◌≡◌, ap, ap₂, ◌∙◌}
use mathlib.Core.Bool.{Bool, true, false}
use mathlib.Core.List.{List}
use Prim.Native.Nat.{ℕ}
use Rattle.sets.specs.Tests.{when◌then◌else◌}
use Rattle.sets.specs.Answers.{is_done}
use Rattle.sets.specs.declared.answer.Answer.{Answer}
use Rattle.sets.proofs.Ways.{failed, held, taken, passed-by}
use Rattle.engine.specs.declared.marking.Marking.{Marking}
use Rattle.engine.specs.declared.step.Stepped.{Stepped}
use Rattle.engine.specs.declared.step.Verdict.{Verdict}
use Rattle.engine.specs.declared.replay.Replayed.{Replayed}
use Rattle.graphfile.specs.Held.{read_of}
use Rattle.graphfile.specs.declared.reader.Reading.{Reading}
use Rattle.plain.specs.Graphs.{PlainGraph, plain_judged_for}
use Rattle.plain.specs.Results.{plain_stepped_of, plain_accepting_of, plain_replay_of}
use Rattle.plain.specs.Filling.{relation_at, filled_of, memory_after}
use Rattle.plain.specs.declared.fill.Filled.{Filled}
use Rattle.port.specs.Port.{packed_of, verdict_of, blocked_of, refused_step}
use Rattle.port.specs.Classroom.{fill_number, fill_memory}

-- ---- x is the answer that the definition has, a the one that the code was given

module _ (x a : Answer) (d : Bool) (h : a ≡ x) (k : d ≡ is_done a) where
  pub refused-step_lem : (y : Stepped) → d ≡ false → refused_step a ≡ when is_done x then y else refused_step x
  refused-step_lem y t = passed-by (is_done x) y _ _ (failed (is_done x) d (k ∙ ap is_done h) t) (ap refused_step h)

  pub refused-number : (n y : ℕ) → d ≡ false → n ≡ packed_of a 0 → n ≡ when is_done x then y else packed_of x 0
  refused-number n y t e =
      passed-by (is_done x) y _ n (failed (is_done x) d (k ∙ ap is_done h) t) (e ∙ ap (λ (b : Answer). packed_of b 0) h)

  pub went_on : {A : Type 0} (y w z : A) → d ≡ true → z ≡ y → z ≡ when is_done x then y else w
  went_on y w z t e = taken (is_done x) y w z (held (is_done x) d (k ∙ ap is_done h) t) e

-- ---- the graph that the code was given is the one that was handed over

module _ (g q : PlainGraph) (e : g ≡ q) where
  pub handed-judged : (a : Answer) (n : ℕ) → a ≡ plain_judged_for g n → a ≡ plain_judged_for q n
  handed-judged a n h = h ∙ ap (λ (y : PlainGraph). plain_judged_for y n) e

  module _ (m m' : Marking) (k : m ≡ m') where
    pub handed-stepped : (a : ℕ) (s : Stepped) → s ≡ plain_stepped_of g m a → s ≡ plain_stepped_of q m' a
    handed-stepped a s h = h ∙ ap₂ (λ (y : PlainGraph) (z : Marking). plain_stepped_of y z a) e k

    pub handed-accepting : (v : Verdict) (n : ℕ) → v ≡ plain_accepting_of g m → n ≡ verdict_of v.answer 0 v.accepting
        → n ≡ verdict_of (plain_accepting_of q m').answer 0 (plain_accepting_of q m').accepting
    handed-accepting v n h p = p ∙ ap (λ (y : Verdict). verdict_of y.answer 0 y.accepting) (h ∙ ap₂ plain_accepting_of e k)

  pub handed-replay : (trace : List ℕ) (v : Replayed) (n : ℕ) → v ≡ plain_replay_of g trace → n ≡ blocked_of v.answer v.place.0 v.accepting
      → n ≡ blocked_of (plain_replay_of q trace).answer (plain_replay_of q trace).place.0 (plain_replay_of q trace).accepting
  handed-replay trace v n h p =
      p
      ∙ ap (λ (y : Replayed). blocked_of y.answer y.place.0 y.accepting) (h ∙ ap (λ (y : PlainGraph). plain_replay_of y trace) e)

pub ruleset handing = (refused-step_lem, refused-number, went_on, handed-judged, handed-stepped, handed-accepting, handed-replay)

-- ---- a relation of a file put down

module _ (file : List ℕ) (kind : ℕ) (memory : List ℕ) (r : Reading) (d : Bool) (hr : r ≡ read_of file) (hd : d ≡ is_done r.answer) where
  abbrev given : Reading → Filled
  given y = filled_of (relation_at y.graph.relations kind) memory

  pub fill-refused : (n : ℕ) → d ≡ false → n ≡ packed_of r.answer 0 → n ≡ fill_number file kind memory
  unfolding fill_number
  fill-refused n t e = refused-number (read_of file).answer r.answer d (ap (λ (y : Reading). y.answer) hr) hd n _ t e

  pub fill-kept : d ≡ false → memory ≡ fill_memory file kind memory
  unfolding fill_memory
  fill-kept t =
      passed-by (is_done (read_of file).answer) _ memory memory
      (failed (is_done (read_of file).answer) d (hd ∙ ap (λ (y : Reading). is_done y.answer) hr) t) (λ _. memory)

  pub fill-number_lem : (f : Filled) (n : ℕ) → d ≡ true → f ≡ given r → n ≡ packed_of f.answer f.pairs → n ≡ fill_number file kind memory
  unfolding fill_number
  fill-number_lem f n t q e =
      went_on (read_of file).answer r.answer d (ap (λ (y : Reading). y.answer) hr) hd _ _ n t
      (e ∙ ap (λ (y : Filled). packed_of y.answer y.pairs) (q ∙ ap given hr))

  pub fill-memory_lem : (memory' : List ℕ) → d ≡ true → memory' ≡ memory_after (relation_at r.graph.relations kind) memory
      → memory' ≡ fill_memory file kind memory
  unfolding fill_memory
  fill-memory_lem memory' t e =
      went_on (read_of file).answer r.answer d (ap (λ (y : Reading). y.answer) hr) hd _ _ memory' t
      (e ∙ ap (λ (y : Reading). memory_after (relation_at y.graph.relations kind) memory) hr)

pub ruleset filling = (fill-refused, fill-kept, fill-number_lem, fill-memory_lem)

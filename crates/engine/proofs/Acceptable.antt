-- What an acceptable graph gives the crates above: its parts are within the events, a step keeps a marking there, and what
-- is judged once need not be judged again. Assumes nothing.
use mathlib.Core.Path.{◌≡◌, refl, sym, ap, subst}
use mathlib.Core.Bool.{true, false}
use mathlib.Core.List.{List}
use Prim.Native.Nat.{ℕ, ◌≤◌, ◌<◌}
use borrow.Author.Tests.{ltb-false, lt-ltb, le-ltb}
use lib.Dec.{T, ltb, eqb→eq, lit≤}
use lib.ListN.{length}
use Rattle.sets.specs.Tests.{◌and◌, ◌or◌, when◌then◌else◌, non}
use Rattle.sets.specs.Members.{width, mem, those, within, bit, bits_of, every_below, is_empty}
use Rattle.sets.specs.Rows.{row_at, in_row}
use Rattle.sets.specs.Tables.{table_at}
use Rattle.sets.specs.Answers.{is_done, then_ask}
use Rattle.sets.specs.declared.set.Set.{Set}
use Rattle.sets.specs.declared.answer.Answer.{Answer}
use Rattle.sets.specs.declared.answer.Answer.TheVariants.{Done, AboveLimit}
use Rattle.sets.proofs.Tests.{and_l, and_r, and_i, or-e, or-true, neither, nor, true→T, T→true, either}
use Rattle.engine.proofs.Judging.{found_none, none_found}
use Rattle.engine.proofs.Enabling.{marked-true}
use Rattle.sets.proofs.Members.{those-e, within-e, within-i}
use Rattle.sets.proofs.Below.{every-e}
use Rattle.engine.specs.declared.marking.State.{State}
use Rattle.engine.specs.declared.marking.Marking.{Marking}
use Rattle.engine.specs.declared.graph.Graph.{Graph}
use Rattle.engine.specs.Relations.{relation_count, in_tables, relations_of, empty_graph}
use Rattle.engine.specs.Steps.{enabled, after}
use Rattle.engine.specs.Judged.{state_within, row_within, rows_within, relations_within, graph_within, true_on, found, judged_for, judged, judged_with, judged_beside}
use Rattle.engine.specs.Enabled.{marked, graph_at, enabled_set, is_true}
use Rattle.sets.specs.Sizes.{most_activities, longest_trace}
use Rattle.engine.specs.Replay.{enabled_of, enabled_on, next_marking, stepped_by, stepped_of, stepped_on, ending, replay_from, replay_of}
use Rattle.engine.specs.Markings.{empty_marking}

-- ---- what was judged

module _ (g : Graph) (n : ℕ) (h : judged_for g n ≡ Done) where
  tests : ((ltb most_activities g.head.activities or ltb longest_trace n) ≡ false) × T (graph_within g) × T (true_on g g.head.opening)
  unfolding judged_for
  tests = found_none _ _ _ h

  pub judged-activities : g.head.activities ≤ most_activities
  judged-activities = ltb-false most_activities g.head.activities (neither _ _ tests.0).0

  pub judged-length : n ≤ longest_trace
  judged-length = ltb-false longest_trace n (neither _ _ tests.0).1

  pub judged-within : T (graph_within g)
  judged-within = tests.1

  pub judged-true : T (true_on g g.head.opening)
  judged-true = tests.2

-- a graph that opens at a state is acceptable where 3 and 5 don't refuse it
pub judged-at : (A : ℕ) (events : Set) (s : State) (tables : List ℕ)
    → ltb most_activities A ≡ false → graph_within (graph_at A events s tables) ≡ true → judged (graph_at A events s tables) ≡ Done
unfolding judged_for
judged-at A events s tables a i = none_found _ _ _ (nor _ _ a refl) (true→T i) (marked-true events (in_tables tables) s)

-- a marking that an acceptable graph is handed without a refusal
pub record Kept (g : Graph) (m : Marking) : Type 0 where
  pub inside : T (state_within g.head.events m.state)
  pub truthful : T (true_on g m)

-- ---- judged once: a trace of legal length and a marking that is kept are no reason to refuse

module _ (g : Graph) (h : judged g ≡ Done) where
  pub judged-for_lem : (n : ℕ) → n ≤ longest_trace → judged_for g n ≡ Done
  unfolding judged_for
  judged-for_lem n l =
      let t = tests g 0 h in
      none_found _ _ _
      (nor _ _ (neither _ _ t.0).0 (le-ltb longest_trace n l))
      t.1 t.2

  pub judged-with_lem : (m : Marking) → Kept g m → judged_with g m ≡ Done
  unfolding judged_with
  judged-with_lem m k =
      let t = tests g 0 h in
      none_found _ _ _ (neither _ _ t.0).0 (and_i _ _ t.1 k.inside) (and_i _ _ t.2 k.truthful)

  -- of a marking that may be refused too, what is left to judge
  pub beside-judged : (m : Marking) → judged_with g m ≡ judged_beside g.head.events (relations_of g) m
  unfolding judged_with judged_beside ◌and◌
  beside-judged m j =
      let t = tests g 0 h in
      found ((neither _ _ t.0).0 j) (T→true (graph_within g) t.1 j and state_within g.head.events m.state)
      (T→true (true_on g g.head.opening) t.2 j and true_on g m)

  pub enabled-on_lem : (m : Marking) (e : ℕ) → enabled_of g m e ≡ enabled_on g.head.events (relations_of g) m e
  unfolding enabled_of enabled_on
  enabled-on_lem m e = ap (λ (x : Answer). then_ask x (enabled g.head.events (relations_of g) m.state e)) (beside-judged m)

  pub stepped-on_lem : (m : Marking) (e : ℕ) → stepped_of g m e ≡ stepped_on g.head.events (relations_of g) m e
  unfolding stepped_of stepped_on
  stepped-on_lem m e = ap (λ (x : Answer). stepped_by x g.head.events (relations_of g) m e) (enabled-on_lem m e)

  pub enabled-judged : (m : Marking) → Kept g m → (e : ℕ) → enabled_of g m e ≡ enabled g.head.events (relations_of g) m.state e
  unfolding enabled_of
  enabled-judged m k e = rw (judged-with_lem m k)

  pub stepped-judged : (m : Marking) → Kept g m → (e : ℕ)
      → stepped_of g m e ≡ record {
        answer = enabled g.head.events (relations_of g) m.state e;
        marking = when is_done
            (enabled g.head.events (relations_of g) m.state e) then next_marking g m e else m;
      }
  unfolding stepped_of
  stepped-judged m k e j =
      record {
        answer = enabled-judged m k e j;
        marking = when is_done
            (enabled-judged m k e j) then next_marking g m e else m;
      }

  pub replay-judged : (trace : List ℕ) → length trace ≤ longest_trace
      → replay_of g trace ≡ replay_from g.head.events (relations_of g) g.head.opening.state 0 trace
  unfolding replay_of
  replay-judged trace l = rw (judged-for_lem (length trace) l)

-- ---- a trace that is too long is refused on any graph

judged-long : (g : Graph) (n : ℕ) → longest_trace < n → judged_for g n ≡ AboveLimit
unfolding judged_for found
judged-long g n l = rw (lt-ltb longest_trace n l) (rw (or-true (ltb most_activities g.head.activities)))

pub replay-long : (g : Graph) (trace : List ℕ) → longest_trace < length trace → replay_of g trace ≡ ending AboveLimit 0 empty_marking false
unfolding replay_of
replay-long g trace l = rw (judged-long g (length trace) l)

-- ---- within the events

module _ (events : Set) (rows : List ℕ) (w : T (rows_within events rows)) (a : ℕ) (l : a < width) where
  at : T (row_within events a (row_at rows a))
  unfolding rows_within
  at = every-e width (λ b. row_within events b (row_at rows b)) w a l

  pub row_inside : T (within (row_at rows a) events)
  unfolding row_within
  row_inside = and_l _ _ at

  -- what stands in a row is an event
  pub in-inside : (b : ℕ) → b < width → T (in_row rows a b) → T (mem events b)
  unfolding in_row
  in-inside b k t = within-e (row_at rows a) events row_inside b k t

module _ (events : Set) (m : State) where
  pub state-parts : T (state_within events m)
      → T (within m.executed events) × T (within m.pending events) × T (within m.included events)
  unfolding state_within
  state-parts w = (and_l _ _ (and_l _ _ w), and_r _ _ (and_l _ _ w), and_r _ _ w)

  pub state-whole : T (within m.executed events) → T (within m.pending events) → T (within m.included events)
      → T (state_within events m)
  unfolding state_within
  state-whole x p i = and_i _ _ (and_i _ _ x p) i

module _ (g : Graph) (w : T (graph_within g)) where
  pub events-inside : T (within g.head.events (those (λ a. ltb a g.head.activities)))
  unfolding graph_within
  events-inside = and_l _ _ (and_l _ _ w)

  pub opening-inside : T (state_within g.head.events g.head.opening.state)
  unfolding graph_within
  opening-inside = and_r _ _ (and_l _ _ w)

  pub rows_inside : (k : ℕ) → k < relation_count → T (rows_within g.head.events (table_at g.relations k))
  unfolding graph_within relations_within
  rows_inside k l = every-e relation_count (λ j. rows_within g.head.events (table_at g.relations j)) (and_r _ _ w) k l

  -- the step of an event keeps the state within the events
  pub after-inside : (m : State) (e : ℕ) → e < width → T (mem g.head.events e) → T (state_within g.head.events m)
      → T (state_within g.head.events (after (relations_of g) m e))
  unfolding after
  after-inside m e l ev k =
      let p = state-parts g.head.events m k in
      let E = g.head.events in
      state-whole E (after (relations_of g) m e)
      (within-i _ E (λ a la t. either (or-e _ _ (those-e _ a t).1) (λ x. within-e _ E p.0 a la x)
      (λ x. subst (λ (b : ℕ). T (mem E b)) (sym (eqb→eq a e x)) ev)))
      (within-i _ E (λ a la t. either (or-e _ _ (those-e _ a t).1) (λ x. within-e _ E p.1 a la (and_l _ _ x))
      (λ x. in-inside E (table_at g.relations 1) (rows_inside 1 (lit≤ tt)) e l a la x)))
      (within-i _ E (λ a la t. either (or-e _ _ (those-e _ a t).1) (λ x. within-e _ E p.2 a la (and_l _ _ x))
      (λ x. in-inside E (table_at g.relations 2) (rows_inside 2 (lit≤ tt)) e l a la x)))

-- ---- what is kept: the opening marking of a graph that is accepted, and the marking after a step

module _ (g : Graph) (h : judged g ≡ Done) where
  pub opening-kept : Kept g g.head.opening
  opening-kept = record { inside = opening-inside g (judged-within g 0 h); truthful = judged-true g 0 h }

  pub after_kept : (m : State) (e : ℕ) → e < width → T (mem g.head.events e) → T (state_within g.head.events m)
      → Kept g (marked g.head.events (relations_of g) (after (relations_of g) m e))
  after_kept m e l ev k =
      record {
        inside = after-inside g (judged-within g 0 h) m e l ev k;
        truthful = marked-true g.head.events (relations_of g) (after (relations_of g) m e);
      }

-- the empty graph is no reason to refuse
pub empty-judged : judged empty_graph ≡ Done
unfolding judged_for found is_true enabled_set enabled graph_within relations_within rows_within row_within state_within within is_empty every_below bits_of bit mem those
    ◌and◌ ◌or◌ non row_at table_at
empty-judged = refl

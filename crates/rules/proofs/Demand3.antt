-- Demand 3: every trace of an accepted log, and the empty trace, replays on the graph mined of the log in either profile: it is done,
-- whole, and ends with no step pending. Here is the marking at each place, the step to the next place, and the theorem, for any relations
-- with reasons in the log. Assumes nothing.
use mathlib.Core.Path.{◌≡◌, refl, sym, ap, subst, ◌∙◌}
use mathlib.Core.Bool.{Bool, true, false}
use mathlib.Core.Logic.{◌⊎◌, inl, inr}
use mathlib.Core.List.{List, [], ◌∷◌, reverse_aux, Memᴰ}
use Prim.Native.Nat.{ℕ, suc, ◌+◌, ◌<◌, ◌≤◌}
use native.Mathlib.Nat.{add-zero, zero-add}
use native.Mathlib.Omega.{arith}
use lib.Dec.{T, eqb, lit≤}
use lib.ListN.{length}
use Rattle.sets.specs.Tests.{◌and◌, ◌or◌, non, when◌then◌else◌}
use Rattle.sets.specs.Members.{width, bits_of, mem, those}
use Rattle.sets.specs.Answers.{is_done}
use Rattle.sets.specs.declared.set.Set.{Set}
use Rattle.sets.specs.declared.answer.Answer.{Answer}
use Rattle.sets.specs.declared.answer.Answer.TheVariants.{Done}
use Rattle.sets.proofs.Tests.{and_l, and_r, or-e, or_l, or_r, non-i, non-e, T-eq, T→true, F→false, T-ext, either}
use Rattle.sets.proofs.Members.{mem-none}
use Rattle.sets.proofs.Below.{some-e}
use Rattle.sets.proofs.Members.{mem-those, those-i, those-ext}
use Rattle.sets.specs.Rows.{in_row}
use Rattle.sets.specs.Tables.{table_at}
use Rattle.sets.proofs.TableLaws.{in-tables_of}
use Rattle.engine.specs.declared.marking.State.{State}
use Rattle.engine.specs.declared.graph.Graph.{Graph}
use Rattle.engine.specs.declared.replay.Replayed.{Replayed}
use Rattle.sets.specs.Members.{no_set}
use Rattle.engine.specs.Relations.{Relations, relation_count, kept, relations_of}
use Rattle.engine.specs.Steps.{waits, enabled, after, accepting}
use Rattle.sets.specs.Sizes.{longest_trace}
use Rattle.engine.specs.Enabled.{marked}
use Rattle.engine.specs.Replay.{ending, replay_from}
use Rattle.engine.proofs.Acceptable.{replay-judged}
use Rattle.rules.specs.declared.Profile.{Profile}
use Rattle.rules.specs.Traces.{Traces, ◌has◌}
use Rattle.rules.specs.Mining.{event, included_after, after_eight, mined}
use Rattle.rules.specs.Mined.{graph_from, mined_graph}
use Rattle.rules.specs.Replays.{Accepted, Replays}
use Rattle.rules.proofs.Places.{has_first, has_rest}
use Rattle.rules.proofs.Why.{Reasons, reasons-eight}
use Rattle.rules.proofs.InTurn.{is-event, included-here, condition-here, response-here}
use Rattle.rules.proofs.Acceptable.{passed, small, acceptable-by, mined-reasons}

-- the state m between past and rest: executed is what stands in the past, included is what step 9 found, and what is pending stands in
-- the rest
pub record Marks (L : Traces) (g : Relations) (past rest : List ℕ) (m : State) : Type 0 where
  pub ran : (a : ℕ) → a < width → mem m.executed a ≡ past has a
  pub open-now : (a : ℕ) → a < width → mem m.included a ≡ included_after L g past a
  pub due : ℕ → Bool
  pub pends : m.pending ≡ those due
  pub later : (a : ℕ) → a < width → T (due a) → T (rest has a)

-- a replay that ended at place n with nothing pending
pub record Through (n : ℕ) (r : Replayed) : Type 0 where
  pub done : r.answer ≡ Done
  pub whole : r.place.0 ≡ n
  pub settled : r.marking.state.pending ≡ no_set
  pub accepted : r.accepting ≡ true

or_swap : (a b : Bool) → (a or b) ≡ (b or a)
or_swap a b = T-ext _ _ (λ t. either (or-e _ _ t) (λ x. or_r _ _ x) (λ x. or_l _ _ x)) (λ t. either (or-e _ _ t) (λ x. or_r _ _ x) (λ x. or_l _ _ x))

none : those (λ a. false) ≡ no_set
unfolding bits_of those
none = refl

-- nothing is pending where nothing is left to come
settles : (L : Traces) (g : Relations) (past : List ℕ) (m : State) → Marks L g past [] m → m.pending ≡ no_set
unfolding ◌has◌
settles L g past m f = f.pends ∙ those-ext f.due (λ a. false) (λ a l. F→false _ (f.later a l)) ∙ none

accepts : (m : State) → m.pending ≡ no_set → accepting m ≡ true
unfolding accepting
accepts m e =
    T→true _ (non-i _ (λ t.
    let r = some-e width _ t in
    T-eq (ap (λ (s : Set). mem s r.0) e ∙ mem-none r.0) (and_l _ _ r.2)))

module _ (A : ℕ) (L : Traces) (ok : Accepted A L) (g : Relations) (why : Reasons L g) where
  abbrev G : Graph
  G = graph_from A (those (event L)) g

  -- a pair of the graph's table k is one of the relations
  in_kept : (k a b : ℕ) → k < relation_count → a < width → b < width → in_row (table_at G.relations k) a b ≡ kept g k a b
  unfolding graph_from
  in_kept k a b l la lb = in-tables_of relation_count (kept g) k a b l la lb

  opens : (σ : List ℕ) → Marks L g [] σ G.head.opening.state
  unfolding graph_from included_after ◌has◌
  opens σ =
      record {
        ran = λ a l. mem-none a;
        open-now = λ a l. mem-those (event L) a l;
        due = λ a. false;
        pends = sym none;
        later = λ a l t. absurd t;
      }

  -- ---- the event e, at its place

  module _ (e : ℕ) (past rest : List ℕ) (here : Memᴰ (reverse_aux past (e ∷ rest)) L) (m : State) (f : Marks L g past (e ∷ rest) m) where
    low : e < width
    low = small A L ok e (is-event L e here (has_rest e past (e ∷ rest) (has_first e rest)))

    an-event : T (mem G.head.events e)
    unfolding graph_from
    an-event = those-i (event L) e low (is-event L e here (has_rest e past (e ∷ rest) (has_first e rest)))

    is-included : T (mem m.included e)
    is-included = T-eq (sym (f.open-now e low)) (included-here L g why e past rest here)

    not-waiting : T (waits (relations_of G) m e) → ⊥
    unfolding waits graph_from
    not-waiting w =
        let r = some-e width _ w in
        let s : ℕ = r.0 in
        let condition = T-eq (in_kept 0 e s (lit≤ tt) low r.1) (and_l _ _ (and_l _ _ r.2)) in
        let included = T-eq (f.open-now s r.1) (and_r _ _ (and_l _ _ r.2)) in
        non-e _ (and_r _ _ r.2) (T-eq (sym (f.ran s r.1)) (condition-here L g why s e past rest here condition included))

    turn : enabled G.head.events (relations_of G) m e ≡ Done
    unfolding enabled
    turn = rw (passed (mem G.head.events e) an-event, passed (mem m.included e) is-included, F→false (waits (relations_of G) m e) not-waiting)

    pending_next : ℕ → Bool
    pending_next a = mem m.pending a and non (eqb a e) or (relations_of G).responses e a

    comes : (a : ℕ) → a < width → T (pending_next a) → T (rest has a)
    unfolding pending_next graph_from ◌has◌
    comes a l t =
        either (or-e _ _ t)
        (λ p. either (or-e _ _ (f.later a l (T-eq (ap (λ (s : Set). mem s a) f.pends ∙ mem-those f.due a l) (and_l _ _ p))))
        (λ q. absurd (non-e _ (and_r _ _ p) q))
        (λ q. q))
        (λ q. response-here L g why e a past rest here (T-eq (in_kept 1 e a (lit≤ tt) low l) q))

    steps : Marks L g (e ∷ past) rest (after (relations_of G) m e)
    unfolding after pending_next graph_from included_after ◌has◌
    steps =
        record {
          ran = λ a l. mem-those _ a l ∙ or_swap _ _ ∙ ap (λ (b : Bool). eqb a e or b) (f.ran a l);
          open-now = λ a l. mem-those _ a l
              ∙ (λ i. f.open-now a l i and non (in_kept 3 e a (lit≤ tt) low l i) or in_kept 2 e a (lit≤ tt) low l i);
          due = pending_next;
          pends = refl;
          later = comes;
        }

  -- ---- from place to place

  ends : (past : List ℕ) (i : ℕ) (m : State) → Marks L g past [] m → Through i (replay_from G.head.events (relations_of G) m i [])
  unfolding replay_from
  ends past i m f = let e = settles L g past m f in record { done = refl; whole = refl; settled = e; accepted = accepts m e }

  goes_on : (e : ℕ) (rest : List ℕ) (i : ℕ) (m : State) → enabled G.head.events (relations_of G) m e ≡ Done
      → replay_from G.head.events (relations_of G) m i (e ∷ rest) ≡ replay_from G.head.events (relations_of G) (after (relations_of G) m e) (i + 1) rest
  unfolding replay_from
  goes_on e rest i m h =
      ap (λ (a : Answer). when is_done a then replay_from G.head.events (relations_of G) (after (relations_of G) m e) (i + 1) rest else ending a i (marked G.head.events (relations_of G) m) false) h

  through : (past rest : List ℕ) (i : ℕ) (m : State) → Memᴰ (reverse_aux past rest) L → Marks L g past rest m
      → Through (i + length rest) (replay_from G.head.events (relations_of G) m i rest)
  through past [] i m here f = rw add-zero (ends past i m f)
  through past (e ∷ rest) i m here f =
      let n : i + 1 + length rest ≡ i + suc (length rest) = omega arith in
      rw (goes_on e rest i m (turn e past rest here m f), ← n)
      (through (e ∷ past) rest (i + 1) (after (relations_of G) m e) here (steps e past rest here m f))

  -- the engine takes the graph, and then replays
  replays : (σ : List ℕ) → length σ ≤ longest_trace → Through (length σ) (replay_from G.head.events (relations_of G) G.head.opening.state 0 σ)
      → Replays G σ
  replays σ l t =
      let taken = replay-judged G (acceptable-by A L ok g why) σ l in
      record {
        done = ap (λ (r : Replayed). r.answer) taken ∙ t.done;
        whole = ap (λ (r : Replayed). r.place.0) taken ∙ t.whole;
        settled = ap (λ (r : Replayed). r.marking.state.pending) taken ∙ t.settled;
        accepted = ap (λ (r : Replayed). r.accepting) taken ∙ t.accepted;
      }

  -- THE THEOREM, for any relations with reasons
  pub replay-by_lem : (σ : List ℕ) → Memᴰ σ L ⊎ (σ ≡ []) → Replays (graph_from A (those (event L)) g) σ
  replay-by_lem σ (inl m) = replays σ (ok.lengths σ m) (rw (← zero-add (length σ)) (through [] σ 0 G.head.opening.state m (opens σ)))
  replay-by_lem σ (inr e) = subst (λ (τ : List ℕ). Replays G τ) (sym e) (replays [] (omega arith) (ends [] 0 G.head.opening.state (opens [])))

-- and for those that are mined
pub demand3 : (A : ℕ) (L : Traces) (p : Profile) → Accepted A L → (σ : List ℕ) → Memᴰ σ L ⊎ (σ ≡ []) → Replays (mined_graph A L p) σ
unfolding mined_graph
demand3 A L p ok σ m = replay-by_lem A L ok (mined L p) (mined-reasons A L ok p) σ m

-- and for those after step 8, of however many traces (02, 12/12)
pub demand3-eight : (A : ℕ) (L : Traces) (p : Profile) → Accepted A L
    → (σ : List ℕ) → Memᴰ σ L ⊎ (σ ≡ []) → Replays (graph_from A (those (event L)) (after_eight L p)) σ
demand3-eight A L p ok σ m = replay-by_lem A L ok (after_eight L p) (reasons-eight L (small A L ok) p) σ m

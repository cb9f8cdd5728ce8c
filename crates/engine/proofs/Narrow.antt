-- What lies below a word: a replay that is cut there after each step is that of relations whose gains are cut, and where nothing is gained above, of
-- the relations themselves. Assumes nothing.
use mathlib.Core.Path.{◌≡◌, refl, sym, ap, ◌∙◌, subst}
use mathlib.Core.Bool.{Bool, true, false, not}
use mathlib.Core.List.{List, [], ◌∷◌}
use Prim.Native.Nat.{ℕ, ◌+◌, ◌≤◌, ◌<◌}
use native.Mathlib.Numerals.{add-one}
use native.Mathlib.Omega.{arith}
use lib.Dec.{T, eqb, eqb→eq, ltb, lt→ltb, ltb→lt}
use lib.ListN.{length, get_or, drop}
use Rattle.sets.specs.Tests.{◌and◌, ◌or◌, non, when◌then◌else◌}
use Rattle.sets.specs.Members.{width, word, mem, those, no_set, some_below, within}
use Rattle.sets.specs.Rows.{row_at, in_row}
use Rattle.sets.specs.Tables.{table_at}
use Rattle.sets.specs.Answers.{is_done}
use Rattle.sets.specs.declared.set.Set.{Set}
use Rattle.sets.specs.declared.answer.Answer.{Answer}
use Rattle.sets.proofs.Tests.{T-ext, T-eq, and_l, and_r, and_i, or-e, or_l, or_r, imp-e, imp-i, true→T, either}
use Rattle.sets.proofs.Below.{every-e, every-i, some-e, some-i, some-last}
use Rattle.sets.proofs.Members.{Fits, none-those, those-ext, those-of, those-mem, those-e, those-i, every_of, within-e, within-i}
use Rattle.sets.proofs.Ways.{failed, held, stops-l, goes}
use Rattle.engine.specs.declared.marking.State.{State}
use Rattle.engine.specs.declared.graph.Graph.{Graph}
use Rattle.engine.specs.declared.replay.Replayed.{Replayed}
use Rattle.engine.specs.declared.replay.Walked.{Walked}
use Rattle.engine.specs.Markings.{state_of}
use Rattle.engine.specs.Few.{few_in, few_of, gains_few, few_gains, gains_for, state_for}
use Rattle.engine.specs.Relations.{Relations, in_tables, relations_of}
use Rattle.engine.specs.Steps.{waits, blocker, enabled, after}
use Rattle.engine.specs.Enabled.{enabled_set, marked}
use Rattle.engine.specs.Judged.{state_within, graph_within}
use Rattle.engine.specs.Replay.{walked_of, ending, replay_from}
use Rattle.engine.proofs.Acceptable.{in-inside, state-parts, state-whole, events-inside, opening-inside, rows_inside}
use Rattle.engine.proofs.Enabling.{done-parts}
use Rattle.engine.proofs.Running.{run-next, walk-stop}

-- ---- what the code makes

pub few-by : (s low u : Set) → low ≡ those (λ a. ltb a word) → u ≡ those (λ a. mem s a and mem low a) → u ≡ few_of s
few-by s low u hl hu = hu ∙ those-of low (λ a. ltb a word) (λ a t. mem s a and t) hl

pub gained-by_lem : (tables : List ℕ) (e : ℕ) (r i u : Set) → r ≡ row_at (table_at tables 1) e → i ≡ row_at (table_at tables 2) e
    → u ≡ those (λ a. mem r a or mem i a) → u ≡ those (λ a. (in_tables tables).responses e a or (in_tables tables).includes e a)
unfolding in_row
gained-by_lem tables e r i u hr hi hu = hu ∙ (λ k. those (λ a. mem (hr k) a or mem (hi k) a))

-- what the activities below n gain
module _ (q : Relations) where
  abbrev pub gained_below : ℕ → Set
  gained_below n = those (λ a. some_below n (λ e. q.responses e a or q.includes e a))

  pub gained-none : ◌≡◌ {A = Set} no_set (gained_below 0)
  unfolding some_below
  gained-none = none-those _ (λ a l. refl)

  pub gained-more : (n : ℕ) (all one both : Set) → all ≡ gained_below n → one ≡ those (λ a. q.responses n a or q.includes n a)
      → both ≡ those (λ a. mem all a or mem one a) → both ≡ gained_below (n + 1)
  gained-more n all one both ha ho hb =
      hb
      ∙ those-of all (λ a. some_below n (λ e. q.responses e a or q.includes e a)) (λ a t. t or mem one a) ha
      ∙ those-of one (λ a. q.responses n a or q.includes n a) (λ a t. some_below n (λ e. q.responses e a or q.includes e a) or t) ho
      ∙ those-ext _ _ (λ a l. sym (ap (λ (k : ℕ). some_below k (λ e. q.responses e a or q.includes e a)) (add-one n) ∙ some-last n _))

  pub gained-end : (n : ℕ) (all low : Set) (t : Bool) → n ≤ word → word ≤ n → all ≡ gained_below n → low ≡ those (λ a. ltb a word)
      → t ≡ within all low → t ≡ gains_few q
  unfolding gains_few within
  gained-end n all low t l g ha hl ht =
      let same : n ≡ word = omega arith in
      ht
      ∙ every_of all (λ a. some_below word (λ e. q.responses e a or q.includes e a)) (λ a b. non b or mem low a) (ha ∙ ap gained_below same)
      ∙ every_of low (λ a. ltb a word) (λ a b. non (some_below word (λ e. q.responses e a or q.includes e a)) or b) hl

-- whether a state and what is gained lie below a word
module _ (q : Relations) (s : State) (low : Set) (t : Bool) (hl : low ≡ those (λ a. ltb a word)) (ht : t ≡ state_within low s) where
  state-low : t ≡ state_within (those (λ a. ltb a word)) s
  state-low = ht ∙ ap (λ (u : Set). state_within u s) hl

  pub few-not : t ≡ false → false ≡ (state_within (those (λ a. ltb a word)) s and gains_few q)
  few-not n = stops-l _ _ (failed _ t state-low n)

  pub few-then : (g : Bool) → t ≡ true → g ≡ gains_few q → g ≡ (state_within (those (λ a. ltb a word)) s and gains_few q)
  few-then g n hg = goes _ _ g (held _ t state-low n) hg

-- ---- a cut that changes nothing

-- of the numbers that a set can hold, only those below a word pass
abbrev Small : (ℕ → Bool) → Type 0
Small p = (a : ℕ) → a < width → T (p a) → T (ltb a word)

cut-same : (p : ℕ → Bool) → Small p → those (λ a. p a and ltb a word) ≡ those p
cut-same p low = those-ext (λ a. p a and ltb a word) p (λ a l. T-ext _ _ (λ t. and_l _ _ t) (λ t. and_i _ _ t (low a l t)))

few-those : (p : ℕ → Bool) → Small p → few_of (those p) ≡ those p
few-those p low = those-of (those p) p (λ a t. t and ltb a word) refl ∙ cut-same p low

-- what is kept and lies there, and what is gained
cut-gain : (p g : ℕ → Bool) → Small p → few_of (those (λ a. p a or g a)) ≡ those (λ a. p a or g a and ltb a word)
cut-gain p g low =
    those-of (those (λ a. p a or g a)) (λ a. p a or g a) (λ a t. t and ltb a word) refl
    ∙ those-ext _ _ (λ a l. T-ext _ _
    (λ t. either (or-e _ _ (and_l _ _ t)) (or_l _ _) (λ h. or_r _ _ (and_i _ _ h (and_r _ _ t))))
    (λ t. either (or-e _ _ t) (λ h. and_i _ _ (or_l _ _ h) (low a l h)) (λ h. and_i _ _ (or_r _ _ (and_l _ _ h)) (and_r _ _ h))))

whole-gain : (p g : ℕ → Bool) → Small g → those (λ a. p a or g a and ltb a word) ≡ those (λ a. p a or g a)
whole-gain p g low = those-ext _ _ (λ a l. ap (λ (t : Bool). p a or t) (T-ext _ _ (and_l _ _) (λ t. and_i _ _ t (low a l t))))

few-whole : (s : Set) → Fits s → Small (mem s) → few_of s ≡ s
few-whole s f low = cut-same (mem s) low ∙ those-mem s f

-- a state that lies below a word
pub record Low (s : State) : Type 0 where
  pub executed : (a : ℕ) → T (mem s.executed a) → T (ltb a word)
  pub pending : (a : ℕ) → T (mem s.pending a) → T (ltb a word)
  pub included : (a : ℕ) → T (mem s.included a) → T (ltb a word)

-- as one does that was cut
pub low-cut : (s m : State) → m ≡ few_in s → Low m
low-cut s m h = subst Low (sym h) (record { executed = part s.executed; pending = part s.pending; included = part s.included })
  where
    part : (u : Set) (a : ℕ) → T (mem (few_of u) a) → T (ltb a word)
    part u a t = and_r _ _ (those-e (λ b. mem u b and ltb b word) a t).1

-- the form that a constant parameter says
abbrev pub form_of : ℕ → Bool
form_of n = not (eqb n 0)

-- a state that a form holds
abbrev pub Holds : Bool → State → Type 0
Holds wide s = wide ≡ false → Low s

pub form-cut : (wide : Bool) (s m : State) → m ≡ state_for wide s → Holds wide m
form-cut wide s m h z = low-cut s m (h ∙ ap (λ (b : Bool). state_for b s) z)

module _ (q : Relations) (events : Set) where
  -- a step from a state below a word: what is enabled goes by the conditions alone
  enabled-same : (s : State) (e : ℕ) → enabled events q s e ≡ enabled events (few_gains q) s e
  unfolding enabled waits blocker
  enabled-same s e = refl

  module _ (s : State) (e : ℕ) (low : Low s) (yes : T (is_done (enabled events q s e))) where
    -- what is enabled is included
    below : T (ltb e word)
    below =
        let in-it : T (mem s.included e) = and_r _ _ (and_l _ _ (T-eq (done-parts events q s e) yes)) in
        low.included e in-it

    itself : (a : ℕ) → T (eqb a e) → T (ltb a word)
    itself a t = subst (λ (n : ℕ). T (ltb n word)) (sym (eqb→eq a e t)) below

    -- the state that is cut after it is that of the relations whose gains are cut
    next-same : few_in (after q s e) ≡ after (few_gains q) s e
    unfolding after
    next-same j =
        state_of
        (few-those (λ a. mem s.executed a or eqb a e) (λ a l t. either (or-e _ _ t) (low.executed a) (itself a)) j)
        (cut-gain (λ a. mem s.pending a and non (eqb a e)) (q.responses e) (λ a l t. low.pending a (and_l _ _ t)) j)
        (cut-gain (λ a. mem s.included a and non (q.excludes e a)) (q.includes e) (λ a l t. low.included a (and_l _ _ t)) j)

    next_low : Low (after (few_gains q) s e)
    next_low = low-cut (after q s e) (after (few_gains q) s e) (sym next-same)

    -- where nothing is gained above, they are the relations
    next-whole : T (gains_few q) → after (few_gains q) s e ≡ after q s e
    unfolding after gains_few
    next-whole few j =
        state_of (those (λ a. mem s.executed a or eqb a e))
        (whole-gain (λ a. mem s.pending a and non (eqb a e)) (q.responses e) (λ a l t. gained a l (or_l _ _ t)) j)
        (whole-gain (λ a. mem s.included a and non (q.excludes e a)) (q.includes e) (λ a l t. gained a l (or_r _ _ t)) j)
      where
        gained : (a : ℕ) → a < width → T (q.responses e a or q.includes e a) → T (ltb a word)
        gained a l t = imp-e _ _ (every-e width _ few a l) (some-i word _ e (ltb→lt e word below) t)

  -- a replay that gains nothing above a word
  pub replay-few : T (gains_few q) → (s : State) → Low s → (i : ℕ) (σ : List ℕ) → replay_from events (few_gains q) s i σ ≡ replay_from events q s i σ
  unfolding replay_from enabled waits blocker enabled_set
  replay-few few s low i [] = refl
  replay-few few s low i (e ∷ σ) =
      by (is_done (enabled events q s e)) (λ h.
      replay-few few (after (few_gains q) s e) (next_low s e low (true→T h)) (i + 1) σ
      ∙ ap (λ (m : State). replay_from events q m (i + 1) σ) (next-whole s e low (true→T h) few))
    where
      by : (t : Bool) → (t ≡ true → replay_from events (few_gains q) (after (few_gains q) s e) (i + 1) σ ≡ replay_from events q (after q s e) (i + 1) σ)
          → (when t then replay_from events (few_gains q) (after (few_gains q) s e) (i + 1) σ else ending (enabled events q s e) i (marked events q s) false)
          ≡ (when t then replay_from events q (after q s e) (i + 1) σ else ending (enabled events q s e) i (marked events q s) false)
      by true rest = rest refl
      by false rest = refl

  module _ (trace : List ℕ) where
    -- one turn further, and either end
    run-few : (s : State) (n : ℕ) (R : Replayed) (a : Answer) (t : Bool) (s' : State) → n < length trace → a ≡ enabled events q s (get_or trace n 0)
        → t ≡ is_done a → t ≡ true → s' ≡ few_in (after q s (get_or trace n 0)) → Low s
        → replay_from events (few_gains q) s n (drop n trace) ≡ R → replay_from events (few_gains q) s' (n + 1) (drop (n + 1) trace) ≡ R
    run-few s n R a t s' l ha ht z hs low inv =
        let done = true→T (sym (held _ t (ht ∙ ap is_done ha) z)) in
        run-next events (few_gains q) s n trace R a t l (ha ∙ enabled-same s (get_or trace n 0)) ht s' z (hs ∙ next-same s (get_or trace n 0) low done) inv

    few-stop : (s : State) (n : ℕ) (R : Replayed) (a : Answer) (t : Bool) → n < length trace → a ≡ enabled events q s (get_or trace n 0) → t ≡ is_done a
        → t ≡ false → replay_from events (few_gains q) s n (drop n trace) ≡ R
        → walked_of (ending a n (marked events (few_gains q) s) false) ≡ walked_of R
    few-stop s n R a t l ha ht z inv = walk-stop events (few_gains q) s n trace R a t l (ha ∙ enabled-same s (get_or trace n 0)) ht z inv

    -- the same in either form
    pub form-turn : (wide : Bool) (s : State) (n : ℕ) (R : Replayed) (a : Answer) (t : Bool) (m s' : State) → n < length trace
        → a ≡ enabled events q s (get_or trace n 0) → t ≡ is_done a → t ≡ true → m ≡ after q s (get_or trace n 0) → s' ≡ state_for wide m → Holds wide s
        → replay_from events (gains_for wide q) s n (drop n trace) ≡ R → replay_from events (gains_for wide q) s' (n + 1) (drop (n + 1) trace) ≡ R
    form-turn true s n R a t m s' l ha ht z hm hs low inv = run-next events q s n trace R a t l ha ht s' z (hs ∙ hm) inv
    form-turn false s n R a t m s' l ha ht z hm hs low inv = run-few s n R a t s' l ha ht z (hs ∙ ap few_in hm) (low refl) inv

    pub form-stop : (wide : Bool) (s : State) (n : ℕ) (R : Replayed) (a : Answer) (t : Bool) → n < length trace
        → a ≡ enabled events q s (get_or trace n 0) → t ≡ is_done a → t ≡ false → replay_from events (gains_for wide q) s n (drop n trace) ≡ R
        → walked_of (ending a n (marked events (gains_for wide q) s) false) ≡ walked_of R
    form-stop true s n R a t l ha ht z inv = walk-stop events q s n trace R a t l ha ht z inv
    form-stop false s n R a t l ha ht z inv = few-stop s n R a t l ha ht z inv

    -- what was replayed from a state that is the one held
    pub form_from : (wide : Bool) (m s : State) (w : Walked) → s ≡ state_for wide m → w ≡ walked_of (replay_from events (gains_for wide q) s 0 trace)
        → w ≡ walked_of (replay_from events (gains_for wide q) (state_for wide m) 0 trace)
    form_from wide m s w h hw = hw ∙ ap (λ (k : State). walked_of (replay_from events (gains_for wide q) k 0 trace)) h

    -- the cut leaves nothing out where all lies below a word
    pub few-walk : (m : State) → Fits m.executed → Fits m.pending → Fits m.included → T (state_within (those (λ a. ltb a word)) m and gains_few q)
        → replay_from events (few_gains q) (few_in m) 0 trace ≡ replay_from events q m 0 trace
    few-walk m fx fp fi all =
        replay-few (and_r _ _ all) (few_in m) (low-cut m (few_in m) refl) 0 trace
        ∙ ap (λ (s : State). replay_from events q s 0 trace)
        (λ j. state_of (few-whole _ fx (small _ inside.0) j) (few-whole _ fp (small _ inside.1) j) (few-whole _ fi (small _ inside.2) j))
      where
        inside : T (within m.executed (those (λ a. ltb a word))) × T (within m.pending (those (λ a. ltb a word))) × T (within m.included (those (λ a. ltb a word)))
        inside = state-parts (those (λ a. ltb a word)) m (and_l _ _ all)

        small : (u : Set) → T (within u (those (λ a. ltb a word))) → Small (mem u)
        small u h a l x = (those-e (λ b. ltb b word) a (within-e u _ h a l x)).1

    pub walk-cut : (m : State) (t : Bool) (w : Walked) → Fits m.executed → Fits m.pending → Fits m.included
        → t ≡ (state_within (those (λ a. ltb a word)) m and gains_few q) → t ≡ true → w ≡ walked_of (replay_from events (few_gains q) (few_in m) 0 trace)
        → w ≡ walked_of (replay_from events q m 0 trace)
    walk-cut m t w fx fp fi ht y hw = hw ∙ ap walked_of (few-walk m fx fp fi (true→T (sym ht ∙ y)))

-- a graph of few activities lies below a word
module _ (g : Graph) (w : T (graph_within g)) (few : g.head.activities ≤ word) where
  event-low : (a : ℕ) → a < width → T (mem g.head.events a) → T (ltb a word)
  event-low a l t =
      let h = (those-e (λ b. ltb b g.head.activities) a (within-e _ _ (events-inside g w) a l t)).1 in
      lt→ltb a word (omega (arith, ltb→lt a g.head.activities h, few))

  set-low : (u : Set) → T (within u g.head.events) → T (within u (those (λ a. ltb a word)))
  set-low u h = within-i u _ (λ a l t. those-i _ a l (event-low a l (within-e u _ h a l t)))

  gains-low : T (gains_few (relations_of g))
  unfolding gains_few
  gains-low =
      every-i width _ (λ a l. imp-i _ _ (λ t.
      let r = some-e word _ t in
      let le : r.0 < width = omega (arith, r.1) in
      event-low a l (either (or-e _ _ r.2) (in-inside _ _ (rows_inside g w 1 (omega arith)) r.0 le a l)
      (in-inside _ _ (rows_inside g w 2 (omega arith)) r.0 le a l))))

  pub few-graph : T (state_within (those (λ a. ltb a word)) g.head.opening.state and gains_few (relations_of g))
  few-graph =
      let p = state-parts _ _ (opening-inside g w) in and_i _ _ (state-whole _ _ (set-low _ p.0) (set-low _ p.1) (set-low _ p.2)) gains-low

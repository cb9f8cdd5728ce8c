-- The promise of 1/12 over the definitions: a graph in lists gives what the graph on sets gives, refusals too, and lists that differ in
-- order or repetition alone give the same. Assumes nothing.
use mathlib.Core.Path.{◌≡◌, refl, sym, ap, ◌∙◌, subst}
use mathlib.Core.Bool.{Bool, true, false}
use mathlib.Core.List.{List}
use Prim.Native.Nat.{ℕ, ◌<◌}
use native.Mathlib.Omega.{arith}
use borrow.Author.Tests.{lt-ltb, le-ltb, ltb-false}
use lib.Dec.{T, ltb, ltb→lt, lt→ltb}
use lib.ListN.{length, get_or}
use Rattle.sets.specs.Sizes.{most_activities, longest_trace}
use Rattle.sets.specs.Tests.{◌and◌, ◌or◌, non, when◌then◌else◌}
use Rattle.sets.specs.Members.{width, mem, every_below, is_empty}
use Rattle.sets.specs.Rows.{Relation, row_at, in_row}
use Rattle.sets.specs.Tables.{table_at}
use Rattle.sets.specs.Answers.{is_done}
use Rattle.sets.specs.declared.set.Set.{Set}
use Rattle.sets.proofs.Tests.{and_l, and_r, and_i, or-e, or_l, or_r, T-ext, T-eq, T→true, F→false, true→T, non-i, split}
use Rattle.sets.proofs.Tests.{either, and-true, true-and, false-and, or-false}
use Rattle.sets.proofs.Below.{every-i, every-e}
use Rattle.sets.proofs.Members.{within-e, within-i, empty-e, mem-none}
use Rattle.sets.proofs.RowLaws.{row_out}
use Rattle.engine.specs.declared.marking.Marking.{Marking}
use Rattle.engine.specs.declared.graph.Head.{Head}
use Rattle.engine.specs.declared.graph.Graph.{Graph}
use Rattle.engine.specs.Markings.{empty_marking}
use Rattle.engine.specs.Relations.{graph_of, relations_of}
use Rattle.engine.specs.Steps.{accepting}
use Rattle.engine.specs.Enabled.{is_true}
use Rattle.engine.specs.Judged.{state_within, row_within, rows_within, relations_within, head_within, graph_within, found, judged_for, judged_with}
use Rattle.engine.specs.Replay.{enabled_of, stepped_of, accepting_of, ending, replay_of}
use Rattle.plain.specs.Pairs.{most_pairs, pair_of, source_of, target_of, is_among, in_pairs, pair_within, pairs_within}
use Rattle.plain.specs.Graphs.{PlainGraph, plain_of, plain_relations, list_fits, lists_fit, lists_within, plain_within, plain_judged_for}
use Rattle.plain.specs.Graphs.{plain_above, plain_judged_with}
use Rattle.plain.specs.Results.{plain_enabled_of, plain_stepped_of, plain_accepting_of, plain_replay_of}
use Rattle.plain.specs.Filling.{relation_at, pairs_of}
use Rattle.plain.specs.Same.{pair_in, Holds, SameMembers, InLists, SameLists}
use Rattle.plain.proofs.PairLaws.{every-in-i, every-in-e}
use Rattle.plain.proofs.Putting.{pairs-fit, pairs-hold}
use Rattle.plain.proofs.SameResults.{BySource, ByTarget, Agree, true_same, replay-same, asked-same, stepped_same}

-- ---- a pair taken apart

module _ (s t : ℕ) (l : t < 256) where
  source-back : source_of (pair_of s t) ≡ s
  source-back = omega arith

  target-back : target_of (pair_of s t) ≡ t
  target-back = omega arith

  within_pair : (events : Set) → pair_within events (pair_of s t) ≡ (mem events s and mem events t)
  unfolding pair_within
  within_pair events i = mem events (source-back i) and mem events (target-back i)

  holds-pair : (pairs : List ℕ) (r : Relation) → Holds pairs r → in_pairs pairs s t ≡ (ltb s width and ltb t width and r s t)
  unfolding pair_in
  holds-pair pairs r h =
      h (pair_of s t) ∙ (λ i. ltb (source-back i) width and ltb (target-back i) width and r (source-back i) (target-back i))

-- a row past the last has no member
past_row : (rows : List ℕ) (a b : ℕ) → (ltb a width and in_row rows a b) ≡ in_row rows a b
unfolding in_row
past_row rows a b =
    either (split (ltb a width))
    (λ h. ap (λ (t : Bool). t and in_row rows a b) (T→true _ h) ∙ true-and (in_row rows a b))
    (λ h.
    let f = F→false _ h in
    ap (λ (t : Bool). t and in_row rows a b) f
    ∙ false-and (in_row rows a b)
    ∙ sym (ap (λ (s : Set). mem s b) (sym (row_out rows a (ltb-false a width f))) ∙ mem-none b))

-- ---- the relations agree

module _ (rows pairs : List ℕ) where
  by-source_lem : Holds pairs (in_row rows) → BySource (in_row rows) (in_pairs pairs)
  unfolding ◌and◌
  by-source_lem h s t ls lt =
      sym
      (holds-pair s t (omega arith) pairs (in_row rows) h
      ∙ and-swap (ltb s width) (ltb t width) (in_row rows s t) (lt-ltb t width lt)
      ∙ past_row rows s t)
    where
      and-swap : (a b c : Bool) → b ≡ true → (a and b and c) ≡ (a and c)
      and-swap true b c e = ap (λ (x : Bool). x and c) e
      and-swap false b c e = refl

  by-target : Holds pairs (λ s t. in_row rows t s) → ByTarget (λ s t. in_row rows t s) (in_pairs pairs)
  by-target h s t ls lt =
      sym
      (holds-pair s t lt pairs (λ a b. in_row rows b a) h
      ∙ ap (λ (x : Bool). x and ltb t width and in_row rows t s) (lt-ltb s width ls)
      ∙ ap (λ (x : Bool). x and in_row rows t s) (true-and (ltb t width))
      ∙ past_row rows t s)

-- ---- both are within the events, or neither

module _ (events : Set) (rows pairs : List ℕ) (code : ℕ → ℕ → ℕ)
    (inside : (a b : ℕ) → a < width → b < width → T (pair_within events (code a b)) → T (mem events a) × T (mem events b))
    (outside : (a b : ℕ) → a < width → b < width → T (mem events a) → T (mem events b) → T (pair_within events (code a b)))
    (listed : (a b : ℕ) → a < width → b < width → T (in_row rows a b) → T (is_among pairs (code a b)))
    (kept : (p : ℕ) → T (is_among pairs p) → (a : ℕ) × (b : ℕ) × (a < width) × (b < width) × T (in_row rows a b) × (code a b ≡ p)) where
  rows-pairs : rows_within events rows ≡ pairs_within events pairs
  unfolding rows_within row_within is_empty in_row
  rows-pairs =
      T-ext _ _
      (λ h. every-in-i pairs (pair_within events)
      (λ p t.
      let x = kept p t in
      let a = x.0 in
      let b = x.1 in
      let row = every-e width (λ k. row_within events k (row_at rows k)) h a x.2 in
      let eb = within-e (row_at rows a) events (and_l _ _ row) b x.3 x.4 in
      let ea = either (or-e _ _ (and_r _ _ row)) (λ y. y) (λ y. absurd (empty-e (row_at rows a) y b x.3 x.4)) in
      subst (λ (n : ℕ). T (pair_within events n)) x.5 (outside a b x.2 x.3 ea eb)))
      (λ h. every-i width (λ k. row_within events k (row_at rows k))
      (λ a la.
      let both : (b : ℕ) → b < width → T (mem (row_at rows a) b) → T (mem events a) × T (mem events b) = λ b lb t.
      inside a b la lb (every-in-e pairs (pair_within events) h (code a b) (listed a b la lb t)) in
      and_i _ _ (within-i (row_at rows a) events (λ b lb t. (both b lb t).1))
      (either (split (mem events a)) (λ y. or_l _ _ y)
      (λ n. or_r _ _ (every-i width (λ b. non (mem (row_at rows a) b)) (λ b lb. non-i _ (λ t. n (both b lb t).0)))))))

module _ (events : Set) (rows pairs : List ℕ) where
  rows-sources : Holds pairs (in_row rows) → rows_within events rows ≡ pairs_within events pairs
  unfolding pair_in
  rows-sources h =
      rows-pairs events rows pairs pair_of
      (λ a b la lb t. let x = T-eq (within_pair a b (omega arith) events) t in (and_l _ _ x, and_r _ _ x))
      (λ a b la lb x y. T-eq (sym (within_pair a b (omega arith) events)) (and_i _ _ x y))
      (λ a b la lb t.
      T-eq (sym (holds-pair a b (omega arith) pairs (in_row rows) h)) (and_i _ _ (and_i _ _ (lt→ltb a width la) (lt→ltb b width lb)) t))
      (λ p t.
      let x = T-eq (h p) t in (
        source_of p,
        target_of p,
        ltb→lt (source_of p) width (and_l _ _ (and_l _ _ x)),
        ltb→lt (target_of p) width
            (and_r _ _ (and_l _ _ x)),
        and_r _ _ x,
        omega arith,
      ))

  rows-targets : Holds pairs (λ s t. in_row rows t s) → rows_within events rows ≡ pairs_within events pairs
  unfolding pair_in
  rows-targets h =
      rows-pairs events rows pairs (λ a b. pair_of b a)
      (λ a b la lb t. let x = T-eq (within_pair b a (omega arith) events) t in (and_r _ _ x, and_l _ _ x))
      (λ a b la lb x y. T-eq (sym (within_pair b a (omega arith) events)) (and_i _ _ y x))
      (λ a b la lb t.
      T-eq (sym (holds-pair b a (omega arith) pairs (λ s e. in_row rows e s) h))
      (and_i _ _ (and_i _ _ (lt→ltb b width lb) (lt→ltb a width la)) t))
      (λ p t.
      let x = T-eq (h p) t in (
        target_of p,
        source_of p,
        ltb→lt (target_of p) width (and_r _ _ (and_l _ _ x)),
        ltb→lt (source_of p) width
            (and_l _ _ (and_l _ _ x)),
        and_r _ _ x,
        omega arith,
      ))

-- ---- a graph on sets and its lists

regroup : (h c r i x : Bool) → (h and (c and (r and (i and (x and true))))) ≡ (h and (c and r and i and x))
unfolding ◌and◌
regroup false c r i x = refl
regroup true false r i x = refl
regroup true true false i x = refl
regroup true true true false x = refl
regroup true true true true x = and-true x

module _ (head : Head) (tables c r i x : List ℕ) (same : InLists tables c r i x) where
  abbrev g : Graph
  g = graph_of head tables

  abbrev p : PlainGraph
  p = plain_of head c r i x

  agree : Agree (relations_of g) (plain_relations p)
  unfolding relation_at
  agree =
      record {
        conditions = by-target (table_at tables 0) c same.conditions;
        responses = by-source_lem (table_at tables 1) r same.responses;
        includes = by-source_lem (table_at tables 2) i same.includes;
        excludes = by-source_lem (table_at tables 3) x same.excludes;
      }

  within_same : graph_within g ≡ plain_within p
  unfolding graph_within relations_within plain_within lists_within every_below relation_at
  within_same =
      let wc = rows-targets head.events (table_at tables 0) c same.conditions in
      let wr = rows-sources head.events (table_at tables 1) r same.responses in
      let wi = rows-sources head.events (table_at tables 2) i same.includes in
      let wx = rows-sources head.events (table_at tables 3) x same.excludes in
      (λ j. head_within head and (wc j and (wr j and (wi j and (wx j and true)))))
      ∙ regroup (head_within head) (pairs_within head.events c) (pairs_within head.events r) (pairs_within head.events i)
      (pairs_within head.events x)

  -- no list is too long, so nothing is above its limit that was not
  above_same : (n : ℕ) → (ltb most_activities head.activities or ltb longest_trace n) ≡ plain_above p n
  unfolding plain_above non
  above_same n =
      sym
      (ap (λ (t : Bool). ltb most_activities head.activities or ltb longest_trace n or non t) (T→true (lists_fit c r i x) same.fit)
      ∙ or-false (ltb most_activities head.activities or ltb longest_trace n))

  truth : (m : Marking) → is_true head.events (relations_of g) m ≡ is_true head.events (plain_relations p) m
  truth m = true_same head.events (relations_of g) (plain_relations p) agree m

  judged-same : (n : ℕ) → judged_for g n ≡ plain_judged_for p n
  unfolding judged_for plain_judged_for
  judged-same n = let opens = truth head.opening in λ j. found (above_same n j) (within_same j) (opens j)

  beside_same : (m : Marking) → judged_with g m ≡ plain_judged_with p m
  unfolding judged_with plain_judged_with
  beside_same m =
      let opens = truth head.opening in
      let tells = truth m in
      let above = sym (or-false (ltb most_activities head.activities)) ∙ above_same 0 in
      λ j. found (above j) (within_same j and state_within head.events m.state) (opens j and tells j)

  -- every graph value, accepted or not; every marking; every activity from 0 to 255; every trace of bytes
  pub lists-enabled : (m : Marking) (e : ℕ) → e < 256 → enabled_of g m e ≡ plain_enabled_of p m e
  unfolding enabled_of plain_enabled_of
  lists-enabled m e l = asked-same head.events (relations_of g) (plain_relations p) agree _ _ (beside_same m) m e l

  pub lists-stepped : (m : Marking) (e : ℕ) → e < 256 → stepped_of g m e ≡ plain_stepped_of p m e
  unfolding stepped_of plain_stepped_of enabled_of plain_enabled_of
  lists-stepped m e l = stepped_same head.events (relations_of g) (plain_relations p) agree _ _ (beside_same m) m e l

  pub lists-accepting : (m : Marking) → accepting_of g m ≡ plain_accepting_of p m
  unfolding accepting_of plain_accepting_of
  lists-accepting m j = record { answer = beside_same m j; accepting = is_done (beside_same m j) and accepting m.state }

  pub lists-replay : (trace : List ℕ) → ((k : ℕ) → get_or trace k 0 < 256) → replay_of g trace ≡ plain_replay_of p trace
  unfolding replay_of plain_replay_of
  lists-replay trace bytes =
      let judged = judged-same (length trace) in
      let rest = replay-same head.events (relations_of g) (plain_relations p) agree head.opening.state 0 trace bytes in
      λ j. when is_done (judged j) then rest j else ending (judged j) 0 empty_marking false

-- ---- lists that hold the same

module _ (head : Head) (c r i x c' r' i' x' : List ℕ) (same : SameLists c r i x c' r' i' x') where
  abbrev one : PlainGraph
  one = plain_of head c r i x

  abbrev other : PlainGraph
  other = plain_of head c' r' i' x'

  alike : Agree (plain_relations one) (plain_relations other)
  alike =
      record {
        conditions = λ s t ls lt. same.conditions (pair_of s t);
        responses = λ s t ls lt. same.responses (pair_of s t);
        includes = λ s t ls lt. same.includes (pair_of s t);
        excludes = λ s t ls lt. same.excludes (pair_of s t);
      }

  pairs-same : (a b : List ℕ) → SameMembers a b → pairs_within head.events a ≡ pairs_within head.events b
  pairs-same a b h =
      T-ext _ _
      (λ t. every-in-i b (pair_within head.events) (λ p k. every-in-e a (pair_within head.events) t p (T-eq (sym (h p)) k)))
      (λ t. every-in-i a (pair_within head.events) (λ p k. every-in-e b (pair_within head.events) t p (T-eq (h p) k)))

  alike-above : (n : ℕ) → plain_above one n ≡ plain_above other n
  unfolding plain_above
  alike-above n =
      let fits : lists_fit c r i x ≡ lists_fit c' r' i' x' =
      T→true (lists_fit c r i x) same.fit ∙ sym (T→true (lists_fit c' r' i' x') same.fit') in
      λ j. ltb most_activities head.activities or ltb longest_trace n or non (fits j)

  alike-within : plain_within one ≡ plain_within other
  unfolding plain_within lists_within
  alike-within =
      let wc = pairs-same c c' same.conditions in
      let wr = pairs-same r r' same.responses in
      let wi = pairs-same i i' same.includes in
      let wx = pairs-same x x' same.excludes in
      λ j. head_within head and (wc j and wr j and wi j and wx j)

  alike-true : (m : Marking) → is_true head.events (plain_relations one) m ≡ is_true head.events (plain_relations other) m
  alike-true m = true_same head.events (plain_relations one) (plain_relations other) alike m

  alike-judged : (n : ℕ) → plain_judged_for one n ≡ plain_judged_for other n
  unfolding plain_judged_for
  alike-judged n = let opens = alike-true head.opening in λ j. found (alike-above n j) (alike-within j) (opens j)

  alike-beside : (m : Marking) → plain_judged_with one m ≡ plain_judged_with other m
  unfolding plain_judged_with
  alike-beside m =
      let opens = alike-true head.opening in
      let tells = alike-true m in
      λ j. found (alike-above 0 j) (alike-within j and state_within head.events m.state) (opens j and tells j)

  pub alike-enabled : (m : Marking) (e : ℕ) → e < 256 → plain_enabled_of one m e ≡ plain_enabled_of other m e
  unfolding plain_enabled_of
  alike-enabled m e l = asked-same head.events (plain_relations one) (plain_relations other) alike _ _ (alike-beside m) m e l

  pub alike-stepped : (m : Marking) (e : ℕ) → e < 256 → plain_stepped_of one m e ≡ plain_stepped_of other m e
  unfolding plain_stepped_of plain_enabled_of
  alike-stepped m e l = stepped_same head.events (plain_relations one) (plain_relations other) alike _ _ (alike-beside m) m e l

  pub alike-accepting : (m : Marking) → plain_accepting_of one m ≡ plain_accepting_of other m
  unfolding plain_accepting_of
  alike-accepting m j = record { answer = alike-beside m j; accepting = is_done (alike-beside m j) and accepting m.state }

  pub alike-replay : (trace : List ℕ) → ((k : ℕ) → get_or trace k 0 < 256) → plain_replay_of one trace ≡ plain_replay_of other trace
  unfolding plain_replay_of
  alike-replay trace bytes =
      let judged = alike-judged (length trace) in
      let rest = replay-same head.events (plain_relations one) (plain_relations other) alike head.opening.state 0 trace bytes in
      λ j. when is_done (judged j) then rest j else ending (judged j) 0 empty_marking false

-- ---- what `fill` puts down

filled-fits : (r : Relation) → T (list_fits (pairs_of r))
unfolding non
filled-fits r = true→T (ap non (le-ltb most_pairs (length (pairs_of r)) (pairs-fit r)))

-- the lists of all four relations hold the graph
pub filled-hold : (tables : List ℕ)
    → InLists tables (pairs_of (relation_at tables 0)) (pairs_of (relation_at tables 1)) (pairs_of (relation_at tables 2))
    (pairs_of (relation_at tables 3))
unfolding lists_fit
filled-hold tables =
    record {
      fit = and_i _ _ (and_i _ _ (and_i _ _ (filled-fits _) (filled-fits _)) (filled-fits _)) (filled-fits _);
      conditions = pairs-hold (relation_at tables 0);
      responses = pairs-hold (relation_at tables 1);
      includes = pairs-hold (relation_at tables 2);
      excludes = pairs-hold (relation_at tables 3);
    }

-- The reader's loop over the rows of a relation, and what it reads put together. Assumes nothing.
use mathlib.Core.Path.{◌≡◌, refl, sym, ap, ◌∙◌}
use mathlib.Core.Bool.{Bool, true, false}
use mathlib.Core.List.{List}
use Prim.Native.Nat.{ℕ, suc, ◌+◌, ◌-◌, ◌≤◌, ◌<◌}
use native.Mathlib.Nat.{sub-zero, add-zero}
use native.Mathlib.Numerals.{add-one}
use native.Mathlib.Omega.{arith}
use Rattle.sets.specs.Tests.{when◌then◌else◌}
use Rattle.sets.specs.Members.{no_set}
use Rattle.sets.specs.Tables.{no_tables, with_row_in}
use Rattle.sets.specs.Answers.{is_done, first_refusal}
use Rattle.sets.specs.declared.set.Set.{Set}
use Rattle.sets.specs.declared.answer.Answer.{Answer}
use Rattle.sets.specs.declared.answer.Answer.TheVariants.{Done}
use Rattle.sets.proofs.Asking.{done-is, refused, passed, gone-on, never_done}
use Rattle.sets.proofs.Order.{turns-begin, turn-passed, turn-refused, turns-end, turns}
use Rattle.engine.specs.declared.marking.State.{State}
use Rattle.engine.specs.Markings.{empty_state, empty_marking}
use Rattle.engine.specs.Relations.{relation_count, head_of, graph_of, empty_graph}
use Rattle.engine.specs.declared.graph.Head.{Head}
use Rattle.engine.specs.declared.graph.Graph.{Graph}
use Rattle.graphfile.specs.declared.reader.Reading.{Reading}
use Rattle.graphfile.specs.declared.reader.Bare.{Bare}
use Rattle.graphfile.specs.Layout.{events_in, state_in, head_in, count_in, earlier_rows, key_in, row_in}
use Rattle.graphfile.specs.Refusals.{rises, row_answer, judged_row, judged_before_rows, judged_relation, judged_file}
use Rattle.graphfile.specs.Held.{filled, with_relation, with_relations, relations_in, graph_in, read_of, bare_of, bare_tables}
use Rattle.graphfile.proofs.Judging.{row-judged, row-refused}

-- ---- row by row: what is left to fill in, filled in, gives the whole

module _ (bytes : List ℕ) (r : ℕ) where
  pub fill-begin : (held : List ℕ) (count first : ℕ) → filled bytes held r (count - 0) (first + 0) ≡ filled bytes held r count first
  fill-begin held count first = λ i. filled bytes held r (sub-zero count i) (add-zero first i)

  pub fill-turn : (held held' whole : List ℕ) (count first j key : ℕ) (row : Set) → j < count
      → filled bytes held r (count - j) (first + j) ≡ whole → key ≡ key_in bytes (first + j) → row ≡ row_in bytes (first + j)
      → held' ≡ with_row_in held r key row → filled bytes held' r (count - (j + 1)) (first + (j + 1)) ≡ whole
  unfolding filled
  fill-turn held held' whole count first j key row l h hk hr e =
      let left : count - j ≡ suc (count - (j + 1)) = omega arith in
      let next : first + (j + 1) ≡ suc (first + j) = omega arith in
      (λ i. filled bytes (e i) r (count - (j + 1)) (next i))
      ∙ (λ i. filled bytes (with_row_in held r (hk i) (hr i)) r (count - (j + 1)) (suc (first + j)))
      ∙ ap (λ (n : ℕ). filled bytes held r n (first + j)) (sym left)
      ∙ h

  pub fill_end : (held whole : List ℕ) (count first j : ℕ) → count ≤ j → filled bytes held r (count - j) (first + j) ≡ whole
      → Done ≡ Done → held ≡ whole
  unfolding filled
  fill_end held whole count first j l h q =
      let none : count - j ≡ 0 = omega arith in
      ap (λ (n : ℕ). filled bytes held r n (first + j)) (sym none) ∙ h

-- ---- row by row: judged, then put

-- where something is refused, nothing is said of the tables
pub nothing-due : (a : Answer) (d : Bool) → d ≡ is_done a → d ≡ false → {P : Type 0} → a ≡ Done → P
nothing-due a d t n = never_done a a d refl t n

module _ (key : ℕ) (events row : Set) (above t : Bool) (ht : t ≡ is_done (row_answer events key row above)) (a : Answer)
    (ha : a ≡ row_answer events key row false) (n : t ≡ false) where
  refused-with : a ≡ row_answer events key row above
  refused-with = ha ∙ row-refused events key row above t ht n

  not_done : t ≡ is_done a
  not_done = ht ∙ ap is_done (sym refused-with)

  pub row-stops : {P : Type 0} → a ≡ Done → P
  row-stops = nothing-due a t not_done n

module _ (bytes : List ℕ) (first j key : ℕ) (events row : Set) (above t : Bool) (he : events ≡ events_in bytes)
    (hk : key ≡ key_in bytes (first + j)) (hr : row ≡ row_in bytes (first + j)) (hu : above ≡ rises bytes first j)
    (ht : t ≡ is_done (row_answer events key row above)) (f : first_refusal j (judged_row bytes first) ≡ Done) where
  here : row_answer events key row above ≡ judged_row bytes first j
  here = row-judged bytes first j key events row above he hk hr hu

  pub take-stopped : (a : Answer) (count : ℕ) → j < count → a ≡ row_answer events key row false → t ≡ false
      → a ≡ first_refusal count (judged_row bytes first)
  take-stopped a count l ha n =
      turn-refused (judged_row bytes first) j a t (refused-with key events row above t ht a ha n ∙ here) (not_done key events row above t ht a ha n) f
      count l n

  pub take-passed : t ≡ true → first_refusal (j + 1) (judged_row bytes first) ≡ Done
  take-passed n = turn-passed (judged_row bytes first) j (row_answer events key row above) t here ht f n

-- of the same rows the same
module _ (bytes bytes' : List ℕ) (same : bytes' ≡ bytes) (first first' count count' : ℕ) (f : first' ≡ first) (n : count' ≡ count) where
  pub same-refusal : (a : Answer) → a ≡ first_refusal count' (judged_row bytes' first') → a ≡ first_refusal count (judged_row bytes first)
  same-refusal a h = h ∙ λ i. first_refusal (n i) (judged_row (same i) (f i))

  pub same-tables : (r : ℕ) (held tables : List ℕ) → tables ≡ filled bytes' held r count' first' → tables ≡ filled bytes held r count first
  same-tables r held tables h = h ∙ λ i. filled (same i) held r (n i) (f i)

pub ruleset taking = (turns-begin, turns-end, take-passed, take-stopped, fill-begin, fill-turn, fill_end, same-refusal, same-tables)

-- what holds before each turn of the loop
abbrev pub Taken : List ℕ → ℕ → ℕ → ℕ → List ℕ → List ℕ → ℕ → Type 0
Taken bytes r count first held₀ held j =
    (first_refusal j (judged_row bytes first) ≡ Done) × (filled bytes held r (count - j) (first + j) ≡ filled bytes held₀ r count first)

-- of the rows of a relation
module _ (bytes bytes' : List ℕ) (same : bytes' ≡ bytes) (r first count : ℕ) (a : Answer) (e : first ≡ earlier_rows bytes r) (f : count ≡ count_in bytes r) where
  pub relation-judged : a ≡ first_refusal count (judged_row bytes' first) → a ≡ judged_relation bytes r
  unfolding judged_relation
  relation-judged h = h ∙ (λ i. first_refusal (f i) (judged_row (same i) (e i)))

  pub relation-held : (held tables : List ℕ) → (a ≡ Done → tables ≡ filled bytes' held r count first) → a ≡ Done → tables ≡ with_relation bytes held r
  relation-held held tables g q = g q ∙ (λ i. filled (same i) held r (f i) (e i))

-- ---- relation by relation

module _ (bytes tables : List ℕ) where
  pub tables-none : tables ≡ with_relations bytes tables 0
  unfolding with_relations
  tables-none = refl

  module _ (held : List ℕ) (r : ℕ) (h : held ≡ with_relations bytes tables r) where
    pub tables-turn : (held' : List ℕ) (a : Answer) (d : Bool) → (a ≡ Done → held' ≡ with_relation bytes held r) → d ≡ is_done a
        → d ≡ true
        → held' ≡ with_relations bytes tables (r + 1)
    unfolding with_relations
    tables-turn held' a d g t n =
        g (gone-on a a d refl t n)
        ∙ ap (λ (x : List ℕ). with_relation bytes x r) h
        ∙ ap (with_relations bytes tables) (sym (add-one r))

    pub tables-all : r ≤ relation_count → relation_count ≤ r → Done ≡ Done → held ≡ with_relations bytes tables relation_count
    tables-all l g q = let same : r ≡ relation_count = omega arith in h ∙ ap (with_relations bytes tables) same

pub ruleset taking-relations = (turns, tables-none, tables-turn, tables-all)

-- ---- the whole file

module _ (bytes : List ℕ) (a : Answer) (d : Bool) (e : a ≡ judged_before_rows bytes) (t : d ≡ is_done a) where
  pub front-stops : d ≡ false → a ≡ judged_file bytes
  unfolding judged_file
  front-stops n = refused a (judged_before_rows bytes) d e t _ n

  pub rows-follow : d ≡ true → (x : Answer) → x ≡ first_refusal relation_count (judged_relation bytes) → x ≡ judged_file bytes
  unfolding judged_file
  rows-follow n x h = h ∙ sym (passed a (judged_before_rows bytes) d e t _ n)

-- as the code finds it in the opened file's bytes, which are the same
module _ (bytes bytes' : List ℕ) (same : bytes' ≡ bytes) (a : Answer) (d : Bool) (e : a ≡ judged_before_rows bytes') (t : d ≡ is_done a) where
  pub front-refuses : d ≡ false → a ≡ judged_file bytes
  front-refuses n = front-stops bytes' a d e t n ∙ ap judged_file same

  module _ (n : d ≡ true) (x : Answer) (y : Bool) (f : x ≡ first_refusal relation_count (judged_relation bytes')) (u : y ≡ is_done x) where
    followed : x ≡ judged_file bytes
    followed = rows-follow bytes' a d e t n x f ∙ ap judged_file same

    pub rows-refuse : y ≡ false → x ≡ judged_file bytes
    rows-refuse m = followed

    pub rows-right : y ≡ true → judged_file bytes ≡ Done
    rows-right m = sym followed ∙ done-is x (sym u ∙ m)

    pub rows-held : y ≡ true → (held tables : List ℕ) → (x ≡ Done → tables ≡ with_relations bytes' held relation_count)
        → tables ≡ with_relations bytes held relation_count
    rows-held m held tables h = h (done-is x (sym u ∙ m)) ∙ ap (λ (b : List ℕ). with_relations b held relation_count) same

pub refusal-kept : (a : Answer) (d : Bool) → d ≡ is_done a → d ≡ false → is_done a ≡ false
refusal-kept a d t n = sym t ∙ n

pub ruleset reading-through = (front-refuses, rows-refuse, rows-right, rows-held, refusal-kept)

-- ---- what is read, by the answer

module _ (bytes : List ℕ) (a : Answer) (d : Bool) (e : a ≡ judged_file bytes) (t : d ≡ is_done a) where
  said : (b : Bool) → d ≡ b → is_done (judged_file bytes) ≡ b
  said b q = ap is_done (sym e) ∙ sym t ∙ q

  bare : (b : Bool) (events : Set) (s : State) → d ≡ b → events ≡ (when b then events_in bytes else no_set)
      → s ≡ (when b then state_in bytes else empty_state) → ◌≡◌ {A = Bare} (record { answer = a; events = events; state = s }) (bare_of bytes)
  unfolding bare_of
  bare b events s q he hs =
      λ i.
      record {
        answer = e i;
        events = (he ∙ ap (λ (y : Bool). when y then events_in bytes else no_set) (sym (said b q))) i;
        state = (hs ∙ ap (λ (y : Bool). when y then state_in bytes else empty_state) (sym (said b q))) i;
      }

  held : (b : Bool) (tables tables' : List ℕ) → d ≡ b → tables' ≡ (when b then with_relations bytes tables relation_count else no_tables relation_count)
      → tables' ≡ bare_tables bytes tables
  unfolding bare_tables
  held b tables tables' q h = h ∙ ap (λ (y : Bool). when y then with_relations bytes tables relation_count else no_tables relation_count) (sym (said b q))

module _ (bytes : List ℕ) (a : Answer) (e : a ≡ judged_file bytes) (n : is_done a ≡ false) where
  pub bare-refused : ◌≡◌ {A = Bare} (record { answer = a; events = no_set; state = empty_state }) (bare_of bytes)
  bare-refused = bare bytes a (is_done a) e refl false no_set empty_state n refl refl

  pub bare-cleared : (tables tables' : List ℕ) → tables' ≡ no_tables relation_count → tables' ≡ bare_tables bytes tables
  bare-cleared tables tables' h = held bytes a (is_done a) e refl false tables tables' n h

module _ (bytes bytes' : List ℕ) (same : bytes' ≡ bytes) (r : judged_file bytes ≡ Done) where
  pub bare-found : (events : Set) (s : State) → events ≡ events_in bytes' → s ≡ state_in bytes'
      → ◌≡◌ {A = Bare} (record { answer = Done; events = events; state = s }) (bare_of bytes)
  bare-found events s he hs = bare bytes Done true (sym r) refl true events s refl (he ∙ ap events_in same) (hs ∙ ap state_in same)

  pub bare-filled : (tables tables' : List ℕ) → tables' ≡ with_relations bytes tables relation_count → tables' ≡ bare_tables bytes tables
  bare-filled tables tables' h = held bytes Done true (sym r) refl true tables tables' refl h

-- the same with the set
module _ (bytes : List ℕ) (b : Bare) (e : b ≡ bare_of bytes) (d : Bool) (t : d ≡ is_done b.answer) where
  answered : b.answer ≡ judged_file bytes
  unfolding bare_of
  answered = ap (λ (x : Bare). x.answer) e

  reading : (y : Bool) (g : Graph) → d ≡ y → g ≡ when y then graph_in bytes else empty_graph
      → ◌≡◌ {A = Reading} (record { answer = b.answer; graph = g }) (read_of bytes)
  unfolding read_of
  reading y g q h =
      λ i.
      record {
        answer = answered i;
        graph = (h ∙ ap (λ (z : Bool). when z then graph_in bytes else empty_graph) (sym (said bytes b.answer d answered t y q))) i;
      }

  kept : (y : Bool) → d ≡ y → bare_tables bytes (no_tables relation_count) ≡ (when y then relations_in bytes relation_count else no_tables relation_count)
  unfolding bare_tables
  kept y q = ap (λ (z : Bool). when z then relations_in bytes relation_count else no_tables relation_count) (said bytes b.answer d answered t y q)

  module _ (tables : List ℕ) (h : tables ≡ bare_tables bytes (no_tables relation_count)) where
    pub read-refused : d ≡ false → ◌≡◌ {A = Reading} (record { answer = b.answer; graph = graph_of (head_of 0 no_set empty_marking) tables }) (read_of bytes)
    read-refused n = reading false _ n (ap (graph_of (head_of 0 no_set empty_marking)) (h ∙ kept false n))

    pub read_taken : (head : Head) → d ≡ true → head ≡ head_in bytes tables
        → ◌≡◌ {A = Reading} (record { answer = b.answer; graph = graph_of head tables }) (read_of bytes)
    unfolding graph_in
    read_taken head y hh =
        let all = h ∙ kept true y in
        reading true _ y ((λ k. graph_of (hh k) tables) ∙ λ k. graph_of (head_in bytes (all k)) (all k))

-- The refusals of a file's parts, as the code finds them one after the other. Assumes nothing.
use mathlib.Core.Path.{◌≡◌, refl, sym, ap, ap₂, ◌∙◌}
use mathlib.Core.Bool.{Bool, true, false}
use mathlib.Core.List.{List}
use Prim.Native.Nat.{ℕ, zero, suc, ◌+◌, ◌-◌, ◌≤◌, ◌<◌}
use native.Mathlib.Omega.{arith}
use borrow.Author.Tests.{lt-ltb, le-ltb, eq-eqb, ne_eqb}
use lib.Dec.{ltb}
use lib.ListN.{length}
use Rattle.sets.specs.Tests.{◌or◌, non, when◌then◌else◌}
use Rattle.sets.specs.Members.{mem, those, is_empty, within}
use Rattle.sets.specs.declared.set.Set.{Set}
use Rattle.sets.specs.Answers.{is_done}
use Rattle.sets.specs.declared.answer.Answer.{Answer}
use Rattle.sets.specs.declared.answer.Answer.TheVariants.{Done, TooShort, WrongLetters, AboveLimit, WrongOffset, Outside, BadRow}
use Rattle.sets.proofs.Tests.{true→T, false→F}
use Rattle.engine.specs.Judged.{state_within}
use Rattle.octets.specs.Editions.{edition_in, opens_file, beyond}
use Rattle.engine.specs.declared.marking.State.{State}
use Rattle.engine.specs.Relations.{relation_count}
use Rattle.graphfile.specs.Layout.{letters, head_length, rows_length, activities_in, events_in, state_in, offset_in, count_in}
use Rattle.octets.specs.Editions.{wide_in}
use Rattle.graphfile.specs.Layout.{earlier_rows, key_in, row_in, end_of}
use Rattle.graphfile.specs.Refusals.{most_rows, judged_sets, judged_head, judged_entry, judged_end, rises, row_answer, judged_row}

-- ---- the end

module _ (bytes : List ℕ) (wide : Bool) (hw : wide ≡ wide_in bytes) (rows end : ℕ) (e : rows ≡ earlier_rows bytes relation_count)
    (he : end ≡ head_length wide + rows_length wide rows) where
  end_is : end ≡ end_of bytes
  end_is = he ∙ λ i. head_length (hw i) + rows_length (hw i) (e i)

  pub end_short : length bytes < end → TooShort ≡ judged_end bytes
  unfolding judged_end
  end_short l = rw (lt-ltb (length bytes) (end_of bytes) (omega (arith, end_is)))

  pub end_more : end ≤ length bytes → end < length bytes → WrongOffset ≡ judged_end bytes
  unfolding judged_end
  end_more m l = rw (le-ltb (length bytes) (end_of bytes) (omega (arith, end_is)), lt-ltb (end_of bytes) (length bytes) (omega (arith, end_is)))

  pub end-right : end ≤ length bytes → length bytes ≤ end → Done ≡ judged_end bytes
  unfolding judged_end
  end-right m l = rw (le-ltb (length bytes) (end_of bytes) (omega (arith, end_is)), le-ltb (end_of bytes) (length bytes) (omega (arith, end_is)))

pub ruleset ends = (end_short, end_more, end-right)

-- ---- an entry

module _ (bytes : List ℕ) (r count most : ℕ) (wide : Bool) (hw : wide ≡ wide_in bytes) (e : count ≡ count_in bytes r) (hm : most ≡ most_rows wide) where
  most-is : most ≡ most_rows (wide_in bytes)
  most-is = hm ∙ ap most_rows hw

  pub entry-many : most < count → AboveLimit ≡ judged_entry bytes r
  unfolding judged_entry
  entry-many l = rw (lt-ltb (most_rows (wide_in bytes)) (count_in bytes r) (omega (arith, most-is)))

  module _ (few : count ≤ most) (offset rows long : ℕ) (o : offset ≡ offset_in bytes r) (f : rows ≡ earlier_rows bytes r) (g : long ≡ rows_length wide rows) where
    long-is : long ≡ rows_length (wide_in bytes) (earlier_rows bytes r)
    long-is = g ∙ (λ i. rows_length (hw i) (f i))

    pub entry-off : (offset ≡ long → ⊥) → WrongOffset ≡ judged_entry bytes r
    unfolding judged_entry non
    entry-off n =
        rw (
          le-ltb (most_rows (wide_in bytes)) (count_in bytes r) (omega (arith, most-is)),
          ne_eqb (offset_in bytes r) (rows_length (wide_in bytes) (earlier_rows bytes r))
              (λ q. n (o ∙ q ∙ sym long-is)),
        )

    pub entry-right : offset ≡ long → Done ≡ judged_entry bytes r
    unfolding judged_entry non
    entry-right q =
        rw (
          le-ltb (most_rows (wide_in bytes)) (count_in bytes r) (omega (arith, most-is)),
          eq-eqb (offset_in bytes r) (rows_length (wide_in bytes) (earlier_rows bytes r))
              (sym o ∙ q ∙ long-is),
        )

pub ruleset entries = (entry-many, entry-off, entry-right)

-- ---- a row

pub rises-first : (bytes : List ℕ) (first j : ℕ) → j ≡ 0 → true ≡ rises bytes first j
unfolding rises
rises-first bytes first j e = ap (rises bytes first) (sym e)

pub rises_next : (bytes : List ℕ) (first j before key : ℕ) → (j ≡ 0 → ⊥) → before ≡ key_in bytes (first + (j - 1))
    → key ≡ key_in bytes (first + j)
    → ltb before key ≡ rises bytes first j
unfolding rises
rises_next bytes first zero before key n e f = absurd (n refl)
rises_next bytes first (suc j) before key n e f =
    let back : first + (suc j - 1) ≡ first + j = omega arith in
    ap₂ ltb (e ∙ ap (key_in bytes) back) f

pub ruleset keys = (rises-first, rises_next)

module _ (events : Set) (key : ℕ) (row : Set) (above : Bool) (k : Bool) (hk : k ≡ mem events key) where
  pub row-no-event : k ≡ false → Outside ≡ row_answer events key row above
  unfolding row_answer ◌or◌ non
  row-no-event n = rw (← hk, n)

  module _ (yk : k ≡ true) (w : Bool) (hw : w ≡ within row events) where
    pub row-outside : w ≡ false → Outside ≡ row_answer events key row above
    unfolding row_answer ◌or◌ non
    row-outside n = rw (← hk, yk, ← hw, n)

    module _ (yw : w ≡ true) (e : Bool) (he : e ≡ is_empty row) where
      pub row-empty : e ≡ true → BadRow ≡ row_answer events key row above
      unfolding row_answer ◌or◌ non
      row-empty n = rw (← hk, yk, ← hw, yw, ← he, n)

      pub row-falls : e ≡ false → above ≡ false → BadRow ≡ row_answer events key row above
      unfolding row_answer ◌or◌ non
      row-falls n a = rw (← hk, yk, ← hw, yw, ← he, n, a)

      pub row-right : e ≡ false → above ≡ true → Done ≡ row_answer events key row above
      unfolding row_answer ◌or◌ non
      row-right n a = rw (← hk, yk, ← hw, yw, ← he, n, a)

      -- the last test decides
      pub right-above : e ≡ false → above ≡ is_done (row_answer events key row above)
      right-above n = by above refl
        where
          by : (u : Bool) → above ≡ u → u ≡ is_done (row_answer events key row above)
          by true h = ap is_done (row-right n h)
          by false h = ap is_done (row-falls n h)

      pub right-empty : e ≡ true → false ≡ is_done (row_answer events key row above)
      right-empty n = ap is_done (row-empty n)

    pub right-outside : w ≡ false → false ≡ is_done (row_answer events key row above)
    right-outside n = ap is_done (row-outside n)

  pub right-no-event : k ≡ false → false ≡ is_done (row_answer events key row above)
  right-no-event n = ap is_done (row-no-event n)

pub ruleset right-by-row = (right-no-event, right-outside, right-empty, right-above)

-- where nothing is outside, a row whose key is not above is bad, empty or not
pub row-bad : (events : Set) (key : ℕ) (row : Set) (k : Bool) → k ≡ mem events key → k ≡ true → (w : Bool) → w ≡ within row events → w ≡ true
    → BadRow ≡ row_answer events key row false
row-bad events key row k hk yk w hw yw = by (is_empty row) refl
  where
    by : (e : Bool) → is_empty row ≡ e → BadRow ≡ row_answer events key row false
    by true h = row-empty events key row false k hk yk w hw yw (is_empty row) refl h
    by false h = row-falls events key row false k hk yk w hw yw (is_empty row) refl h refl

pub ruleset row-by-row = (row-no-event, row-outside, row-bad)

-- a row that is refused is refused with the same where its key is taken not to be above
pub row-refused : (events : Set) (key : ℕ) (row : Set) (above t : Bool) → t ≡ is_done (row_answer events key row above) → t ≡ false
    → row_answer events key row false ≡ row_answer events key row above
unfolding row_answer ◌or◌ non
row-refused events key row false t h n = refl
row-refused events key row true t h n =
    by (non (mem events key) or non (within row events)) (is_empty row) (sym h ∙ n)
  where
    by : (o e : Bool) → is_done (when o then Outside else when e or false then BadRow else Done) ≡ false
        → (when o then Outside else when e or true then BadRow else Done) ≡ (when o then Outside else when e or false then BadRow else Done)
    by true e q = refl
    by false true q = refl
    by false false q = absurd (false→F q (true→T refl))

-- row j of a relation, read part by part
pub row-judged : (bytes : List ℕ) (first j key : ℕ) (events row : Set) (above : Bool) → events ≡ events_in bytes → key ≡ key_in bytes (first + j)
    → row ≡ row_in bytes (first + j) → above ≡ rises bytes first j → row_answer events key row above ≡ judged_row bytes first j
row-judged bytes first j key events row above he hk hr ha = λ i. row_answer (he i) (hk i) (hr i) (ha i)

-- ---- the events and the marking

-- the answer by what was found: the events below A, the marking within them
abbrev sets_answer : Bool → Bool → Answer
sets_answer low within = when non low then Outside else when non within then Outside else Done

module _ (bytes : List ℕ) (events low : Set) (t : Bool) (n : ℕ) (he : events ≡ events_in bytes) (hn : n ≡ activities_in bytes)
    (hb : low ≡ those (λ x. ltb x n)) (ht : t ≡ within events low) where
  sets-are : (e m : Bool) → t ≡ e → state_within (events_in bytes) (state_in bytes) ≡ m → sets_answer e m ≡ judged_sets bytes
  unfolding judged_sets
  sets-are e m pe pm = λ i. sets_answer ((sym pe ∙ ht ∙ ap₂ within he (hb ∙ ap (λ (a : ℕ). those (λ x. ltb x a)) hn)) i) (sym pm i)

  pub sets-events : t ≡ false → Outside ≡ judged_sets bytes
  unfolding non
  sets-events n = sets-are false _ (n) refl

  module _ (nt : t ≡ true) (state : State) (m : Bool) (hs : state ≡ state_in bytes) (hm : m ≡ state_within events state) where
    state-there : state_within (events_in bytes) (state_in bytes) ≡ m
    state-there = sym (hm ∙ ap₂ state_within he hs)

    pub sets-marking : m ≡ false → Outside ≡ judged_sets bytes
    unfolding non
    sets-marking n = sets-are true false (nt) (state-there ∙ n)

    pub sets-right : m ≡ true → Done ≡ judged_sets bytes
    unfolding non
    sets-right n = sets-are true true (nt) (state-there ∙ n)

pub ruleset both-sets = (sets-events, sets-marking, sets-right)

-- ---- the head

module _ (bytes : List ℕ) (l : Bool) (hl : l ≡ opens_file letters bytes) where
  pub head-letters : l ≡ false → WrongLetters ≡ judged_head bytes
  unfolding judged_head non
  head-letters n = rw (← hl, n)

  module _ (nl : l ≡ true) (wide : Bool) (hw : wide ≡ wide_in bytes) (n : ℕ) (hn : n ≡ head_length wide) where
    head-is : n ≡ head_length (wide_in bytes)
    head-is = hn ∙ ap head_length hw

    pub head-short : length bytes < n → TooShort ≡ judged_head bytes
    unfolding judged_head non
    head-short s = rw (← hl, nl, lt-ltb (length bytes) (head_length (wide_in bytes)) (omega (arith, head-is)))

module _ (bytes : List ℕ) (opened : opens_file letters bytes ≡ true) (there : head_length (wide_in bytes) ≤ length bytes) (e n : ℕ)
    (he : e ≡ edition_in bytes) (hn : n ≡ activities_in bytes) (b : Bool) (hb : b ≡ beyond e n) where
  is-beyond : beyond (edition_in bytes) (activities_in bytes) ≡ b
  is-beyond = ap₂ beyond (sym he) (sym hn) ∙ sym hb

  pub head-above : b ≡ true → AboveLimit ≡ judged_head bytes
  unfolding judged_head non
  head-above t = rw (opened, le-ltb (length bytes) (head_length (wide_in bytes)) there, is-beyond, t)

  pub head-sets : (a : Answer) → b ≡ false → a ≡ judged_sets bytes → a ≡ judged_head bytes
  unfolding judged_head non
  head-sets a t h = h ∙ rw (opened, le-ltb (length bytes) (head_length (wide_in bytes)) there, is-beyond, t)

pub ruleset heads = (head-above, head-sets)

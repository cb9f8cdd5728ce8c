-- What the code finds by a file's form is what stands there; and the numbers that it counts with are a machine's. Assumes nothing.
use mathlib.Core.Path.{◌≡◌, sym, ap, ◌∙◌, subst}
use mathlib.Core.Bool.{Bool}
use mathlib.Core.List.{List}
use Prim.Native.Nat.{ℕ, suc, ◌+◌, ◌*◌, ◌^◌, ◌≤◌, ◌<◌}
use native.Mathlib.Omega.{arith}
use borrow.Author.Tests.{lt-ltb, le-ltb}
use lib.Dec.{eqb}
use lib.ListN.{length, get_or}
use Rattle.sets.specs.Members.{width, no_set}
use Rattle.sets.specs.declared.set.Set.{Set}
use Rattle.engine.specs.declared.marking.State.{State}
use Rattle.engine.specs.declared.marking.Marking.{Marking}
use Rattle.engine.specs.declared.graph.Head.{Head}
use Rattle.engine.specs.Markings.{marking_of, empty_marking}
use Rattle.engine.specs.Relations.{relation_count, head_of, in_tables}
use Rattle.engine.specs.Enabled.{marked}
use Rattle.octets.specs.Numbers.{number_length, number_at}
use Rattle.octets.specs.Sets.{set_length, set_at}
use Rattle.octets.specs.Editions.{edition_for, edition_in}
use Rattle.graphfile.specs.Layout.{wide_for, activities_place, events_place, executed_place, entries_place, head_length, rows_length}
use Rattle.octets.specs.Editions.{wide_in}
use Rattle.graphfile.specs.Layout.{state_at, state_in, marking_at, head_at, head_in, offset_in, count_in, row_place, key_in, row_in}
use Rattle.graphfile.specs.Markings.{marking_length}
use Rattle.graphfile.specs.Heads.{lone_head_length, wide_head, head_from}
use Rattle.graphfile.proofs.RowLengths.{set-most, rows-suc, rows-le, rows-most}

-- ---- which form

pub wide_by : (bytes : List ℕ) (e : ℕ) → e ≡ edition_in bytes → eqb e 2 ≡ wide_in bytes
wide_by bytes e h = ap (λ (n : ℕ). eqb n 2) h

pub form-by : (a e : ℕ) → e ≡ edition_for a → eqb e 2 ≡ wide_for a
form-by a e h = ap (λ (n : ℕ). eqb n 2) h

-- ---- lengths that fit a machine's number

module _ (wide : Bool) (n : ℕ) (e : n ≡ set_length wide) where
  pub fits-2 : 2 * n < 2 ^ 64
  fits-2 = omega (arith, set-most wide)

  pub fits-3 : 3 * n < 2 ^ 64
  fits-3 = omega (arith, set-most wide)

  pub fits-4 : 4 * n < 2 ^ 64
  fits-4 = omega (arith, set-most wide)

  pub fits_8 : 8 * n < 2 ^ 64
  fits_8 = omega (arith, set-most wide)

  pub fits_one : 1 + n < 2 ^ 64
  fits_one = omega (arith, set-most wide)

  pub fits-events : 4 + n < 2 ^ 64
  fits-events = omega (arith, set-most wide)

  pub fits-state : 4 + n + 3 * set_length wide < 2 ^ 64
  fits-state = omega (arith, set-most wide)

  pub fits-entries : 4 + 4 * n < 2 ^ 64
  fits-entries = omega (arith, set-most wide)

  pub entries-most : 4 + 4 * n ≤ 68
  entries-most = omega (arith, set-most wide)

  pub fits_head : (m : ℕ) → m ≡ marking_length wide → 1 + n + m < 2 ^ 64
  fits_head m h = omega (arith, set-most wide)

pub ruleset fitting = (fits-2, fits-3, fits-4, fits_8, fits_one, fits-events, fits-state, fits-entries, entries-most, fits_head)

module _ (wide : Bool) (n long : ℕ) (e : long ≡ rows_length wide n) where
  pub place-fits : (head : ℕ) → n ≤ 65536 * relation_count → head ≤ 84 → head + long < 2 ^ 64
  place-fits head l h = omega (arith, rows-most wide n)

  pub file-fits : (head : ℕ) → n ≤ width * relation_count → head ≤ 84 → head + long < 2 ^ 64
  file-fits head l h = omega (arith, rows-most wide n)

  pub entry-fits : n ≤ width * relation_count → long < 65536
  entry-fits l = omega (arith, rows-most wide n)

-- ---- the entries

module _ (bytes : List ℕ) (w : Bool) (hw : w ≡ wide_in bytes) where
  pub count_at : (p r x : ℕ) → p ≡ entries_place w → x ≡ number_at number_length bytes (p + 2 + 4 * r) → x ≡ count_in bytes r
  count_at p r x hp h = h ∙ ap (λ (n : ℕ). number_at number_length bytes (n + 2 + 4 * r)) (hp ∙ ap entries_place hw)

  pub offset-at_lem : (p r x : ℕ) → p ≡ entries_place w → x ≡ number_at number_length bytes (p + 4 * r) → x ≡ offset_in bytes r
  offset-at_lem p r x hp h = h ∙ ap (λ (n : ℕ). number_at number_length bytes (n + 4 * r)) (hp ∙ ap entries_place hw)

  -- both numbers of an entry are there
  module _ (p r : ℕ) (hp : p ≡ entries_place w) (l : r < relation_count) (room : head_length (wide_in bytes) ≤ length bytes) where
    pub count_room : p + 2 + 4 * r + number_length ≤ length bytes
    count_room = omega (arith, ap set_length hw)

    pub offset-room : p + 4 * r + number_length ≤ length bytes
    offset-room = omega (arith, ap set_length hw)

  -- ---- a row

  module _ (k p : ℕ) (hp : p ≡ head_length w + rows_length w k) where
    place_is : p ≡ row_place bytes k
    place_is = hp ∙ (λ i. head_length (hw i) + rows_length (hw i) k)

    pub key-room : row_place bytes k < length bytes → p < length bytes
    key-room l = subst (λ (n : ℕ). n < length bytes) (sym place_is) l

    pub key-at : get_or bytes p 0 ≡ key_in bytes k
    key-at = ap (λ (n : ℕ). get_or bytes n 0) place_is

    pub row_fits : row_place bytes (suc k) ≤ length bytes → length bytes < 2 ^ 64 → p + 1 < 2 ^ 64
    row_fits l m = omega (arith, place_is, rows-suc (wide_in bytes) k)

    pub row_room : row_place bytes (suc k) ≤ length bytes → p + 1 + set_length w ≤ length bytes
    row_room l = omega (arith, place_is, rows-suc (wide_in bytes) k, ap set_length hw)

    pub row-at_lem : (s : Set) → s ≡ set_at w bytes (p + 1) → s ≡ row_in bytes k
    row-at_lem s h = h ∙ (λ i. set_at (hw i) bytes (place_is i + 1))

  -- ---- the head

  pub head-room : head_length (wide_in bytes) ≤ length bytes → head_length w ≤ length bytes
  head-room l = subst (λ (b : Bool). head_length b ≤ length bytes) (sym hw) l

  pub head-long : (n : ℕ) → n ≡ head_length w → n ≤ length bytes → head_length (wide_in bytes) ≤ length bytes
  head-long n hn l = subst (λ (b : Bool). head_length b ≤ length bytes) hw (subst (λ (m : ℕ). m ≤ length bytes) hn l)

  pub head-in-is : (tables : List ℕ) (events : Set) (st : State) (m : Marking) → events ≡ set_at w bytes events_place → st ≡ state_in bytes
      → m ≡ marked events (in_tables tables) st → ◌≡◌ {A = Head} (head_of (get_or bytes activities_place 0) events m) (head_in bytes tables)
  head-in-is tables events st m he hs hm =
      let ev = he ∙ ap (λ (b : Bool). set_at b bytes events_place) hw in
      λ i. head_of (get_or bytes activities_place 0) (ev i) ((hm ∙ (λ j. marked (ev j) (in_tables tables) (hs j))) i)

pub state-in-is : (bytes : List ℕ) (w : Bool) (n : ℕ) (s : State) → n ≡ set_length w → s ≡ state_at w bytes (4 + n) → w ≡ wide_in bytes → s ≡ state_in bytes
state-in-is bytes w n s hn h hw = h ∙ ap (λ (k : ℕ). state_at w bytes (4 + k)) hn ∙ ap (λ (b : Bool). state_at b bytes (executed_place b)) hw

-- ---- markings and heads by themselves

module _ (wide : Bool) (bytes : List ℕ) (at n : ℕ) (hn : n ≡ set_length wide) where
  pub marking-is : (s : State) (e : Set) → s ≡ state_at wide bytes at → e ≡ set_at wide bytes (at + 3 * n) → marking_of s e ≡ marking_at wide bytes at
  marking-is s e hs he = λ i. marking_of (hs i) ((he ∙ ap (λ (k : ℕ). set_at wide bytes (at + 3 * k)) hn) i)

  pub head-is : (events : Set) (m : Marking) → events ≡ set_at wide bytes (at + 1) → m ≡ marking_at wide bytes (at + 1 + n)
      → head_of (get_or bytes at 0) events m ≡ head_at wide bytes at
  head-is events m he hm =
      let place : at + 1 + n ≡ at + (1 + set_length wide) = omega arith in
      λ i. head_of (get_or bytes at 0) (he i) ((hm ∙ ap (marking_at wide bytes) place) i)

-- a head by itself, by its A
module _ (bytes : List ℕ) (a n : ℕ) (w : Bool) (ha : a ≡ get_or bytes 0 0) (hw : w ≡ wide_for a) (hn : n ≡ lone_head_length w) where
  form-is : w ≡ wide_head bytes
  form-is = hw ∙ ap wide_for ha

  length-is : n ≡ lone_head_length (wide_head bytes)
  length-is = hn ∙ ap lone_head_length form-is

  pub head-none : length bytes < n → head_of 0 no_set empty_marking ≡ head_from bytes
  unfolding head_from
  head-none l = rw (lt-ltb (length bytes) (lone_head_length (wide_head bytes)) (omega (arith, length-is)))

  pub head-some : (h : Head) → n ≤ length bytes → h ≡ head_at w bytes 0 → h ≡ head_from bytes
  unfolding head_from
  head-some h l e =
      e ∙ ap (λ (b : Bool). head_at b bytes 0) form-is
      ∙ rw (le-ltb (length bytes) (lone_head_length (wide_head bytes)) (omega (arith, length-is)))

-- ---- the rows of a relation that is walked

module _ (bytes : List ℕ) (first count j : ℕ) (l : j < count) (room : row_place bytes (first + count) ≤ length bytes) where
  pub row-there : row_place bytes (suc (first + j)) ≤ length bytes
  row-there =
      let least : suc (first + j) ≤ first + count = omega arith in
      omega (arith, rows-le (wide_in bytes) (suc (first + j)) (first + count) least)

  pub key-there : row_place bytes (first + j) < length bytes
  key-there = omega (arith, row-there, rows-suc (wide_in bytes) (first + j))

pub ruleset walking = (row-there, key-there)

pub ruleset forms = (wide_by, form-by, count_at, offset-at_lem, count_room, offset-room, key-room, key-at, row_fits, row_room, row-at_lem, head-room, head-long, head-in-is, state-in-is, marking-is, head-is, head-none, head-some, place-fits, file-fits, entry-fits)

-- What is read from a tally, whatever its bytes are: the tables, and steps 6 and 7 by the sets of the pairs. Assumes nothing.
use mathlib.Core.Path.{◌≡◌, refl, sym, ap, ap₂, ◌∙◌, subst}
use mathlib.Core.Bool.{Bool, true, false}
use mathlib.Core.List.{List}
use Prim.Native.Nat.{ℕ, ◌+◌, ◌*◌, ◌≤◌, ◌<◌}
use native.Mathlib.Omega.{arith}
use borrow.Author.Tests.{lt-ltb, le-ltb, eqb-true, eqb-false}
use lib.Dec.{eqb, ltb, lt→ltb, ltb→lt}
use lib.ListN.{get_or}
use Rattle.sets.specs.Tests.{◌and◌, ◌or◌, non, when◌then◌else◌}
use Rattle.sets.specs.Members.{width, mem, those, no_set, some_below, is_empty, Takes}
use Rattle.sets.specs.Rows.{Relation, row_words, no_rows, row_at, with_row, in_row, rows_of, rows_for}
use Rattle.sets.specs.Tables.{no_tables, table_at, with_table, tables_of}
use Rattle.sets.specs.declared.set.Set.{Set}
use Rattle.sets.proofs.Tests.{T-ext, true-and, false-and}
use Rattle.sets.proofs.Below.{some-ext}
use Rattle.sets.proofs.Members.{Whole, those-ext}
use Rattle.sets.proofs.MadeSets.{is-those, is_row, joined, less}
use Rattle.sets.proofs.RowLaws.{row-in_lem, row-rows_of, in-rows_of, rows_of-ext, empty-rows_of, put-rows_of}
use Rattle.sets.proofs.TableLaws.{table-row-is, tables_of-ext, empty-tables_of, fill-tables_of}
use Rattle.sets.proofs.Passing.{Part, passed, in_some, union-start, union-turn, union-whole, least-low}
use Rattle.octets.specs.Sets.{set_length}
use Rattle.octets.proofs.Codec.{Bytes}
use Rattle.octets.proofs.SetLaws.{set-whole}
use Rattle.rules.specs.declared.Profile.{Profile}
use Rattle.steps.specs.Rowwise.{reduced_of}
use Rattle.tally.specs.Tallies.{table_count}
use Rattle.miner.specs.Stages.{conditions_of, responses_of, excludes_six, four_tables}
use Rattle.months.specs.Layout.{tally_width, row_set, pair_set, set_in}
use Rattle.months.specs.Readings.{between_in, includers, includes_in, redundant_by, excluded, excludes_from}
use Rattle.months.specs.Readings.{relations_from}

-- a set of the code's bytes is one of the code's sets
pub at-whole : (tally : List ℕ) → Bytes tally → (w : ℕ) (r : Set) → r ≡ set_in tally w → those (mem r) ≡ r
at-whole tally bytes w r h = subst Whole (sym h) (set-whole false tally bytes (set_length false * w))

-- ---- rows, one after another

-- the first i rows of a relation
abbrev pub rows_to : Relation → ℕ → List ℕ
rows_to R i = rows_of (λ a x. ltb a i and R a x)

one-more_lem : (i a : ℕ) (b : Bool) → eqb a i ≡ b → (when b then true else ltb a i) ≡ ltb a (i + 1)
one-more_lem i a true e = let same = eqb-true a i e in sym (lt-ltb a (i + 1) (omega arith))
one-more_lem i a false e =
    let ne = eqb-false a i e in
    T-ext (ltb a i) (ltb a (i + 1)) (λ t. lt→ltb a (i + 1) (omega (arith, ltb→lt a i t))) (λ t. lt→ltb a i (omega (arith, ltb→lt a (i + 1) t)))

module _ (R : Relation) where
  pub rows_start : (out : List ℕ) → out ≡ no_rows → out ≡ rows_to R 0
  rows_start out h = h ∙ empty-rows_of _ (λ a x la lx. ap (λ (b : Bool). b and R a x) (le-ltb a 0 (omega arith)) ∙ false-and (R a x))

  pub rows-turn : (i : ℕ) (s : Set) (out out' : List ℕ) → s ≡ those (R i) → out ≡ rows_to R i → out' ≡ with_row out i s → out' ≡ rows_to R (i + 1)
  rows-turn i s out out' hs h p =
      p ∙ ap₂ (λ (l : List ℕ) (x : Set). with_row l i x) h hs ∙ put-rows_of (λ a x. ltb a i and R a x) i (R i)
      ∙ rows_of-ext _ _ (λ a x la lx. by a x (eqb a i) refl)
    where
      by : (a x : ℕ) (b : Bool) → eqb a i ≡ b → (when b then R i x else (ltb a i and R a x)) ≡ (ltb a (i + 1) and R a x)
      by a x true e =
          ap (λ (n : ℕ). R n x) (sym (eqb-true a i e)) ∙ sym (true-and (R a x)) ∙ ap (λ (b : Bool). b and R a x) (one-more_lem i a true e)
      by a x false e = ap (λ (b : Bool). b and R a x) (one-more_lem i a false e)

  pub rows-end_lem : (i : ℕ) (out : List ℕ) → tally_width ≤ i → i ≤ tally_width → out ≡ rows_to R i → out ≡ rows_to R tally_width
  rows-end_lem i out g l h = let same : i ≡ tally_width = omega arith in h ∙ ap (rows_to R) same

-- tables, one after another
abbrev pub tables_to : (ℕ → Relation) → ℕ → List ℕ
tables_to R k = tables_of table_count (λ j a x. ltb j k and R j a x)

module _ (R : ℕ → Relation) where
  pub tables_start : (out : List ℕ) → out ≡ no_tables table_count → out ≡ tables_to R 0
  tables_start out h =
      h ∙ empty-tables_of table_count _ (λ j a x lj la lx. ap (λ (b : Bool). b and R j a x) (le-ltb j 0 (omega arith)) ∙ false-and (R j a x))

  pub tables-turn : (k : ℕ) (rows out out' : List ℕ) → rows ≡ rows_of (R k) → out ≡ tables_to R k → out' ≡ with_table out k rows → out' ≡ tables_to R (k + 1)
  tables-turn k rows out out' hr h p =
      p ∙ ap₂ (λ (l r : List ℕ). with_table l k r) h hr ∙ fill-tables_of table_count (λ j a x. ltb j k and R j a x) k (R k)
      ∙ tables_of-ext table_count _ _ (λ j a x lj la lx. by j a x (eqb j k) refl)
    where
      by : (j a x : ℕ) (b : Bool) → eqb j k ≡ b → (when b then R k else (λ c y. ltb j k and R j c y)) a x ≡ (ltb j (k + 1) and R j a x)
      by j a x true e =
          ap (λ (n : ℕ). R n a x) (sym (eqb-true j k e)) ∙ sym (true-and (R j a x)) ∙ ap (λ (b : Bool). b and R j a x) (one-more_lem k j true e)
      by j a x false e = ap (λ (b : Bool). b and R j a x) (one-more_lem k j false e)

  pub tables_end : (k : ℕ) (out : List ℕ) → table_count ≤ k → out ≡ tables_to R k → out ≡ tables_of table_count R
  tables_end k out g h =
      h ∙ tables_of-ext table_count _ R (λ j a x lj la lx. ap (λ (b : Bool). b and R j a x) (lt-ltb j k (omega arith)) ∙ true-and (R j a x))

-- ---- the union of some members' sets

abbrev pub GatheredFrom : Relation → Set → Set → Set → Type 0
GatheredFrom R all out rest = (Part all rest) × (out ≡ those (in_some (rows_of R) (passed all rest)))

module _ (R : Relation) (all : Set) where
  pub gather-start : GatheredFrom R all no_set all
  gather-start = union-start (rows_of R) all

  pub gather-turn : (out out' row rest rest' : Set) (k : ℕ) → GatheredFrom R all out rest → Takes rest k rest' → row ≡ those (R k)
      → out' ≡ those (λ a. mem out a or mem row a) → GatheredFrom R all out' rest'
  gather-turn out out' row rest rest' k inv t hw hu =
      union-turn (rows_of R) all out out' row rest rest' _ inv.0 inv.1 refl t.0
      (hw ∙ ap (λ (n : ℕ). those (R n)) t.1 ∙ sym (row-rows_of R _ (least-low rest rest' _ refl t.0 t.2))) hu t.2

  pub gather-end : (out rest whole : Set) → GatheredFrom R all out rest → is_empty rest ≡ true → all ≡ whole
      → out ≡ those (λ x. some_below width (λ u. mem whole u and R u x))
  gather-end out rest whole inv n same =
      union-whole (rows_of R) all out rest whole inv.1 n same
      ∙ those-ext _ _ (λ x lx. some-ext width _ _ (λ u lu. ap (λ (b : Bool). mem whole u and b) (in-rows_of R u x lu lx)))

-- what is read of one pair
pub pair-those : (tally : List ℕ) (u s : ℕ) (r : Set) → (r ≡ set_in tally (pair_set u s)) × (those (mem r) ≡ r)
    → r ≡ those (λ x. mem (set_in tally (pair_set u s)) x)
pair-those tally u s r h = sym h.1 ∙ ap (λ (x : Set). those (mem x)) h.0

pub row-those : (tally : List ℕ) (k a : ℕ) (r : Set) → (r ≡ set_in tally (row_set k a)) × (those (mem r) ≡ r)
    → r ≡ those (λ x. mem (set_in tally (row_set k a)) x)
row-those tally k a r h = sym h.1 ∙ ap (λ (x : Set). those (mem x)) h.0

-- ---- one row of step 6

pub includers-is : (events : Set) (tally chains never : List ℕ) (t : ℕ) (n back c both r : Set) → n ≡ row_at never t
    → back ≡ those (λ x. some_below width (λ s. mem n s and mem (set_in tally (pair_set s t)) x)) → c ≡ row_at chains t
    → both ≡ those (λ a. mem c a or mem back a) → r ≡ those (λ a. mem events a and mem both a)
    → r ≡ those (includers events chains never (between_in tally) t)
unfolding includers in_row
includers-is events tally chains never t n back c both r hn hb hc hu h =
    let known = hb ∙ ap (λ (m : Set). those (λ x. some_below width (λ s. mem m s and mem (set_in tally (pair_set s t)) x))) hn in
    let either_way = joined ◌or◌ c back both (in_row chains t) _ (is_row c chains t hc) (is-those back _ known) hu in
    joined ◌and◌ events both r (mem events) _ (λ a l. refl) (is-those both _ either_way) h

-- ---- one row of step 7

one_table : (rows : List ℕ) (a x : ℕ) → a < width → in_row (table_at rows 0) a x ≡ in_row rows a x
unfolding in_row
one_table rows a x l =
    let low : a ≡ 0 * row_words + a = omega arith in
    let high : width + a ≡ 0 * row_words + a + width = omega arith in
    ap (λ (s : Set). mem s x)
    (sym (table-row-is rows 0 a _ _ l (ap (λ (n : ℕ). get_or rows n 0) low) (ap (λ (n : ℕ). get_or rows n 0) high)) ∙ row-in_lem rows a l)

pub redundant-is : (tally includes excludes : List ℕ) (u s : ℕ) (x i shut m back r : Set) → x ≡ row_at excludes u → i ≡ row_at includes u
    → shut ≡ those (λ a. mem x a and non (mem i a)) → m ≡ set_in tally (pair_set u s)
    → back ≡ those (λ a. some_below width (λ v. mem m v and in_row (table_at includes 0) v a)) → r ≡ those (λ a. mem shut a and non (mem back a))
    → r ≡ those (redundant_by includes excludes (between_in tally) u s)
unfolding redundant_by
redundant-is tally includes excludes u s x i shut m back r hx hi hs hm hb h =
    let first = less x i shut (in_row excludes u) (in_row includes u) (is_row x excludes u hx) (is_row i includes u hi) hs in
    let known = hb ∙ ap (λ (n : Set). those (λ a. some_below width (λ v. mem n v and in_row (table_at includes 0) v a))) hm in
    less shut back r _ _ (is-those shut _ first)
    (λ a l. is-those back _ known a l ∙ some-ext width _ _ (λ v lv. ap (λ (b : Bool). mem (between_in tally u s) v and b) (one_table includes v a lv))) h

pub excluded-is : (tally alternate includes excludes : List ℕ) (s : ℕ) (m gone x r : Set) → m ≡ row_at alternate s
    → gone ≡ those (λ a. some_below width (λ u. mem m u and redundant_by includes excludes (between_in tally) u s a)) → x ≡ row_at excludes s
    → r ≡ those (λ a. mem x a and non (mem gone a)) → r ≡ those (excluded alternate includes excludes (between_in tally) s)
unfolding excluded in_row
excluded-is tally alternate includes excludes s m gone x r hm hg hx h =
    let known = hg ∙ ap (λ (n : Set). those (λ a. some_below width (λ u. mem n u and redundant_by includes excludes (between_in tally) u s a))) hm in
    less x gone r (in_row excludes s) _ (is_row x excludes s hx) (is-those gone _ known) h

-- ---- the stages

module _ (events : Set) (tally tables : List ℕ) where
  pub eight_is : (p : Profile) (none c r i x t₁ t₂ t₃ t₄ : List ℕ) → none ≡ no_tables 4 → c ≡ rows_for events (reduced_of (conditions_of events tables))
      → t₁ ≡ with_table none 0 c → r ≡ rows_for events (reduced_of (responses_of events tables)) → t₂ ≡ with_table t₁ 1 r
      → i ≡ includes_in p events tables (between_in tally) → t₃ ≡ with_table t₂ 2 i
      → x ≡ excludes_from events tables i (excludes_six p events tables) (between_in tally) → t₄ ≡ with_table t₃ 3 x
      → t₄ ≡ relations_from events tables (between_in tally) p
  eight_is p none c r i x t₁ t₂ t₃ t₄ h₀ hc h₁ hr h₂ hi h₃ hx h₄ =
      h₄ ∙ ap (λ (l : List ℕ). with_table l 3 x) (h₃ ∙ ap (λ (l : List ℕ). with_table l 2 i) (h₂ ∙ ap (λ (l : List ℕ). with_table l 1 r)
      (h₁ ∙ ap (λ (l : List ℕ). with_table l 0 c) h₀)))
      ∙ (λ j. four_tables (hc j) (hr j) (hi j) (eight-excludes j))
    where
      eight-excludes : x ≡ excludes_from events tables (includes_in p events tables (between_in tally)) (excludes_six p events tables) (between_in tally)
      eight-excludes = hx ∙ ap (λ (l : List ℕ). excludes_from events tables l (excludes_six p events tables) (between_in tally)) hi

-- Each table of the tally of a log is the answer to a question of the rules. Assumes nothing.
use mathlib.Core.Path.{◌≡◌, refl, sym, ap, ◌∙◌}
use mathlib.Core.Bool.{Bool, true, false}
use mathlib.Core.List.{List, [], ◌∷◌}
use Prim.Native.Nat.{ℕ, zero, suc, ◌<◌}
use native.Mathlib.Omega.{arith}
use borrow.Author.Tests.{eqb-true, eqb-false}
use lib.Dec.{eqb}
use Rattle.sets.specs.Tests.{◌and◌, ◌or◌, non, when◌then◌else◌}
use Rattle.sets.specs.Members.{width}
use Rattle.sets.specs.Rows.{Relation, in_row, rows_of}
use Rattle.sets.specs.Tables.{no_tables, table_at}
use Rattle.sets.proofs.RowLaws.{rows_of-ext, in-rows_of}
use Rattle.sets.proofs.TableLaws.{table-put-same, table-put-other, table_none}
use Rattle.rules.specs.Traces.{Traces, ◌has◌, ◌begins_with◌, at_some}
use Rattle.rules.specs.Mining.{precedes, answers, chained, before, followed, alternates}
use Rattle.rules.proofs.LogLaws.{non-every, some-ext, next-from, before-later}
use Rattle.tally.specs.Passes.{Fact, Turn, gained, gained_for, gains_in, noted_in, forward, backward, through, is_earlier, not_earlier, not_directly}
use Rattle.tally.specs.Passes.{not_since, is_later, not_later, is_next, reaches, cut}
use Rattle.tally.specs.Tallies.{table_count, before_table, later_table, unpreceded_table, unanswered_table, unchained_table, unalternated_table}
use Rattle.tally.specs.Tallies.{followed_table, note_past_in, note_rest_in, noted_for, tallied_for, note_past, note_rest, noted, tallied}
use Rattle.tally.proofs.Folds.{said, heard, heard-in, formed, gains-in_lem, forward-in, backward-by, through-all}

-- ---- a table of a pass is a pass over the table

module _ (k : ℕ) (whole one : Turn) (h : (tally : List ℕ) (e : ℕ) (past rest : List ℕ) → table_at (whole tally e past rest) k
    ≡ one (table_at tally k) e past rest) where
  forward-table : (tally past rest : List ℕ) → table_at (forward whole tally past rest) k ≡ forward one (table_at tally k) past rest
  unfolding forward
  forward-table tally past [] = refl
  forward-table tally past (e ∷ rest) =
      forward-table (whole tally e past rest) (e ∷ past) rest
      ∙ ap (λ (rows : List ℕ). forward one rows (e ∷ past) rest) (h tally e past rest)

  backward-table : (tally past rest : List ℕ) → table_at (backward whole tally past rest) k ≡ backward one (table_at tally k) past rest
  unfolding backward
  backward-table tally past [] = refl
  backward-table tally past (e ∷ rest) =
      h (backward whole tally (e ∷ past) rest) e past rest
      ∙ ap (λ (rows : List ℕ). one rows e past rest) (backward-table tally (e ∷ past) rest)

-- ---- what each pass does to table k

-- the rows of table k, where table j gains
abbrev in_one : ℕ → ℕ → ℕ → (ℕ → Bool) → List ℕ → List ℕ
in_one k j e p rows = when eqb k j then gained rows e p else rows

noted-table : (tally : List ℕ) (j e : ℕ) (p : ℕ → Bool) (k : ℕ) → table_at (noted_in tally j e p) k ≡ in_one k j e p (table_at tally k)
unfolding noted_in gained
noted-table tally j e p k = by (eqb k j) refl
  where
    by : (t : Bool) → eqb k j ≡ t → table_at (noted_in tally j e p) k ≡ (when t then gained (table_at tally k) e p else table_at tally k)
    by true h =
        let same : k ≡ j = eqb-true k j h in
        ap (table_at (noted_in tally j e p)) same ∙ table-put-same tally j e _ ∙ ap (λ (n : ℕ). gained (table_at tally n) e p) (sym same)
    by false h = table-put-other tally j e _ k (eqb-false k j h)

thrice-table : (tally : List ℕ) (i j l e : ℕ) (p q r : ℕ → Bool) (k : ℕ)
    → table_at (noted_in (noted_in (noted_in tally i e p) j e q) l e r) k ≡ in_one k l e r (in_one k j e q (in_one k i e p (table_at tally k)))
thrice-table tally i j l e p q r k =
    noted-table (noted_in (noted_in tally i e p) j e q) l e r k
    ∙ ap (in_one k l e r) (noted-table (noted_in tally i e p) j e q k ∙ ap (in_one k j e q) (noted-table tally i e p k))

-- the table of what a form leaves of a tally
held-table : (b : Bool) (t tally rows : List ℕ) (k : ℕ) → table_at t k ≡ rows → table_at (when b then t else tally) k ≡ (when b then rows else table_at tally k)
held-table true t tally rows k h = h
held-table false t tally rows k h = refl

module _ (wide : Bool) (k : ℕ) where
  abbrev past_in : Turn
  past_in rows e past rest =
      when reaches wide e then
      in_one k unalternated_table e (cut wide not_since e past rest)
      (in_one k unchained_table e (cut wide not_directly e past rest)
      (in_one k unpreceded_table e (cut wide not_earlier e past rest) (in_one k before_table e (cut wide is_earlier e past rest) rows)))
      else rows

  abbrev rest_in : Turn
  rest_in rows e past rest =
      when reaches wide e then
      in_one k followed_table e (cut wide is_next e past rest)
      (in_one k unanswered_table e (cut wide not_later e past rest) (in_one k later_table e (cut wide is_later e past rest) rows))
      else rows

  past-at_lem : (t : List ℕ) (e : ℕ) (past rest : List ℕ) → table_at (note_past_in wide t e past rest) k ≡ past_in (table_at t k) e past rest
  unfolding note_past_in
  past-at_lem t e past rest =
      held-table (reaches wide e) _ t _ k
      (noted-table _ unalternated_table e (cut wide not_since e past rest) k
      ∙ ap (in_one k unalternated_table e (cut wide not_since e past rest)) (thrice-table t _ _ _ e _ _ _ k))

  rest_at : (t : List ℕ) (e : ℕ) (past rest : List ℕ) → table_at (note_rest_in wide t e past rest) k ≡ rest_in (table_at t k) e past rest
  unfolding note_rest_in
  rest_at t e past rest = held-table (reaches wide e) _ t _ k (thrice-table t _ _ _ e _ _ _ k)

  -- the passes over a trace
  abbrev noted_at : List ℕ → List ℕ → List ℕ
  noted_at rows σ = backward rest_in (forward past_in rows [] σ) [] σ

  noted-at_lem : (tally σ : List ℕ) → table_at (noted_for wide tally σ) k ≡ noted_at (table_at tally k) σ
  unfolding noted_for
  noted-at_lem tally σ =
      backward-table k (note_rest_in wide) rest_in rest_at (forward (note_past_in wide) tally [] σ) [] σ
      ∙ ap (λ (rows : List ℕ). backward rest_in rows [] σ) (forward-table k (note_past_in wide) past_in past-at_lem tally [] σ)

  through-table : (tally : List ℕ) (L : Traces) → table_at (through (noted_for wide) tally L) k ≡ through noted_at (table_at tally k) L
  unfolding through
  through-table tally [] = refl
  through-table tally (σ ∷ L) = through-table (noted_for wide tally σ) L ∙ ap (λ (rows : List ℕ). through noted_at rows L) (noted-at_lem tally σ)

  -- a table that hears of one fact
  table_is : k < table_count → (p : Fact) (L : Traces)
      → ((r : Relation) (σ : List ℕ) → noted_at (rows_of r) σ ≡ rows_of (λ a x. r a x or said p [] σ a x))
      → table_at (tallied_for wide L) k ≡ rows_of (heard p L)
  table_is l p L one =
      through-table (no_tables table_count) L
      ∙ ap (λ (rows : List ℕ). through noted_at rows L) (table_none table_count k l)
      ∙ through-all p noted_at one L

-- ---- a table that a pass does not touch stays

module _ (wide : Bool) where
  abbrev still : Turn
  still rows e past rest = when reaches wide e then rows else rows

  stays : (b : Bool) (rows : List ℕ) → (when b then rows else rows) ≡ rows
  stays true rows = refl
  stays false rows = refl

  forward-still : (rows past rest : List ℕ) → forward still rows past rest ≡ rows
  unfolding forward
  forward-still rows past [] = refl
  forward-still rows past (e ∷ rest) = forward-still (still rows e past rest) (e ∷ past) rest ∙ stays (reaches wide e) rows

  backward-still : (rows past rest : List ℕ) → backward still rows past rest ≡ rows
  unfolding backward
  backward-still rows past [] = refl
  backward-still rows past (e ∷ rest) = stays (reaches wide e) _ ∙ backward-still rows (e ∷ past) rest

  module _ (p : Fact) (r : Relation) (σ : List ℕ) where
    past-alone : backward still (forward (gains_in wide p) (rows_of r) [] σ) [] σ ≡ rows_of (λ a x. r a x or said (formed wide p) [] σ a x)
    past-alone = backward-still _ [] σ ∙ forward-in wide p r [] σ

    rest-alone : backward (gains_in wide p) (forward still (rows_of r) [] σ) [] σ ≡ rows_of (λ a x. r a x or said (formed wide p) [] σ a x)
    rest-alone =
        ap (λ (rows : List ℕ). backward (gains_in wide p) rows [] σ) (forward-still _ [] σ)
        ∙ backward-by (formed wide p) (gains_in wide p) (gains-in_lem wide p) r [] σ

-- ---- the seven, in a form

-- what table k hears of
abbrev fact_at : ℕ → Fact
fact_at zero = is_earlier
fact_at (suc zero) = is_later
fact_at (suc (suc zero)) = not_earlier
fact_at (suc (suc (suc zero))) = not_later
fact_at (suc (suc (suc (suc zero)))) = not_directly
fact_at (suc (suc (suc (suc (suc zero))))) = not_since
fact_at (suc (suc (suc (suc (suc (suc k)))))) = is_next

table-heard : (wide : Bool) (L : Traces) (k : ℕ) → k < table_count → table_at (tallied_for wide L) k ≡ rows_of (heard (formed wide (fact_at k)) L)
unfolding gains_in gained_for
table-heard wide L zero l = table_is wide 0 l _ L (past-alone wide is_earlier)
table-heard wide L (suc zero) l = table_is wide 1 l _ L (rest-alone wide is_later)
table-heard wide L (suc (suc zero)) l = table_is wide 2 l _ L (past-alone wide not_earlier)
table-heard wide L (suc (suc (suc zero))) l = table_is wide 3 l _ L (rest-alone wide not_later)
table-heard wide L (suc (suc (suc (suc zero)))) l = table_is wide 4 l _ L (past-alone wide not_directly)
table-heard wide L (suc (suc (suc (suc (suc zero))))) l = table_is wide 5 l _ L (past-alone wide not_since)
table-heard wide L (suc (suc (suc (suc (suc (suc zero)))))) l = table_is wide 6 l _ L (rest-alone wide is_next)
table-heard wide L (suc (suc (suc (suc (suc (suc (suc k))))))) l = absurd (omega (arith, l))

-- ---- over the whole width

-- the wide form leaves nothing out
pub through-whole : (t : List ℕ) (L : Traces) → through (noted_for true) t L ≡ through noted t L
unfolding noted_for noted note_past_in note_past note_rest_in note_rest cut reaches ◌and◌ ◌or◌
through-whole t L = refl

module _ (L : Traces) where
  whole_is : (k : ℕ) → k < table_count → (R : Relation) → ((a x : ℕ) → heard (fact_at k) L a x ≡ R a x) → table_at (tallied L) k ≡ rows_of R
  whole_is k l R h =
      ap (λ (x : List ℕ). table_at x k) (sym (through-whole (no_tables table_count) L))
      ∙ table-heard true L k l
      ∙ rows_of-ext _ R (λ a x la lx. heard-in true (fact_at k) L a x (unfold reaches ◌or◌ in refl) (unfold reaches ◌or◌ in refl) ∙ h a x)

  pub before-table_lem : table_at (tallied L) before_table ≡ rows_of (λ t s. before L s t)
  unfolding is_earlier before
  before-table_lem = whole_is before_table (omega arith) _ (λ a x. refl)

  pub later-table_lem : table_at (tallied L) later_table ≡ rows_of (before L)
  unfolding is_later
  later-table_lem = whole_is later_table (omega arith) _ (before-later L)

  pub unpreceded-table_lem : table_at (tallied L) unpreceded_table ≡ rows_of (λ t s. non (precedes L s t))
  unfolding not_earlier precedes
  unpreceded-table_lem = whole_is unpreceded_table (omega arith) _ (λ a x. sym (non-every a (λ q r. q has x) L))

  pub unanswered-table_lem : table_at (tallied L) unanswered_table ≡ rows_of (λ s t. non (answers L s t))
  unfolding not_later answers
  unanswered-table_lem = whole_is unanswered_table (omega arith) _ (λ a x. sym (non-every a (λ q r. r has x) L))

  pub unchained-table_lem : table_at (tallied L) unchained_table ≡ rows_of (λ t s. non (chained L s t))
  unfolding not_directly chained
  unchained-table_lem = whole_is unchained_table (omega arith) _ (λ a x. sym (non-every a (λ q r. q begins_with x) L))

  pub unalternated-table_lem : table_at (tallied L) unalternated_table ≡ rows_of (λ s u. non (alternates L u s))
  unfolding not_since alternates
  unalternated-table_lem =
      whole_is unalternated_table (omega arith) _ (λ a x. sym (non-every a (λ q r. at_some x (λ nearer farther. non (nearer has a)) q) L))

  pub followed-table_lem : table_at (tallied L) followed_table ≡ rows_of (followed L)
  unfolding is_next followed ◌and◌ ◌or◌ ◌begins_with◌
  followed-table_lem =
      whole_is followed_table (omega arith) _
      (λ a x. some-ext L (at_some a (λ q r. r begins_with x)) (at_some x (λ q r. q begins_with a)) (λ σ. sym (next-from a x [] σ)))

-- ---- either form says the same of what it can hold

pub form-agrees : (wide : Bool) (L : Traces) (k a x : ℕ) → k < table_count → a < width → x < width → reaches wide a ≡ true → reaches wide x ≡ true
    → in_row (table_at (tallied_for wide L) k) a x ≡ in_row (table_at (tallied L) k) a x
form-agrees wide L k a x lk la lx ha hx =
    ap (λ (rows : List ℕ). in_row rows a x) (table-heard wide L k lk)
    ∙ in-rows_of (heard (formed wide (fact_at k)) L) a x la lx
    ∙ heard-in wide (fact_at k) L a x ha hx
    ∙ sym (in-rows_of (heard (fact_at k) L) a x la lx)
    ∙ ap (λ (rows : List ℕ). in_row rows a x) (sym (whole_is L k lk _ (λ b y. refl)))

-- What one u makes redundant, from what the calls of a stage of step 7 ensure. Assumes nothing.
use mathlib.Core.Path.{◌≡◌, refl, sym, ap, ap₂, ◌∙◌, subst}
use mathlib.Core.Bool.{Bool, true, false}
use mathlib.Core.List.{List}
use Prim.Native.Nat.{ℕ, ◌<◌}
use borrow.Author.Tests.{eq-eqb, ne_eqb}
use lib.Dec.{T, eqb}
use Rattle.sets.specs.Tests.{◌and◌, ◌or◌, non}
use Rattle.sets.specs.Members.{width, mem, those, some_below, is_empty}
use Rattle.sets.specs.Rows.{Relation, row_at, in_row, rows_of}
use Rattle.sets.specs.Tables.{table_at}
use Rattle.sets.specs.declared.set.Set.{Set}
use Rattle.sets.proofs.Tests.{and_l, and_r, T→true, true→T, F→false, and-true, and_comm, and_assoc, true-and, false-and}
use Rattle.sets.proofs.Tautologies.{by4}
use Rattle.sets.proofs.Below.{some-ext}
use Rattle.sets.proofs.Members.{empty-e, those-of}
use Rattle.sets.proofs.MadeSets.{Is, is-those, is_row}
use Rattle.rules.specs.Traces.{Traces}
use Rattle.tally.specs.Tallies.{before_table, later_table}
use Rattle.miner.specs.Facts.{Less, doubted, reopened}
use Rattle.miner.specs.Stages.{followers_of, redundant_by}
use Rattle.miner.proofs.Losing.{where-so, less_by, less_as, less_none, less-more, Lost, lost-end, in-union}

-- what something after u and before a lets in
pub doubted-is : (before includes : List ℕ) (a : ℕ) (later row between out : Set) → row ≡ row_at before a
    → between ≡ those (λ v. mem later v and mem row v) → out ≡ those (λ x. some_below width (λ v. mem between v and in_row includes v x))
    → Is out (doubted before includes later a)
unfolding doubted
doubted-is before includes a later row between out hr hb ho x lx =
    is-those out _ ho x lx
    ∙ some-ext width _ _
    (λ v l. ap (λ (b : Bool). b and in_row includes v x)
    (is-those between _ hb v l ∙ ap (λ (b : Bool). mem later v and b) (is_row row before a hr v l)))

-- the two ways of the test whether anything is in doubt
pub not-asked : (n m : ℕ) (b : Bool) → (n ≡ m → ⊥) → false ≡ (eqb n m and b)
not-asked n m b h = sym (ap (λ (t : Bool). t and b) (ne_eqb n m h) ∙ false-and b)

pub asked-empty : (n m : ℕ) (asked out both : Set) (p : ℕ → Bool) (b : Bool) → n ≡ m → out ≡ those p → both ≡ those (λ x. mem asked x and mem out x)
    → b ≡ is_empty both → b ≡ (eqb n m and is_empty (those (λ x. mem asked x and p x)))
asked-empty n m asked out both p b h ho hj hb =
    hb ∙ ap is_empty (hj ∙ those-of out p (λ x t. mem asked x and t) ho)
    ∙ sym (ap (λ (t : Bool). t and is_empty (those (λ x. mem asked x and p x))) (eq-eqb n m h) ∙ true-and _)

-- what no trace lets in goes: of the pairs that are asked for what is left of a copy
pub open-lost : (F asked : Set) (H : Relation) (rows left gone : List ℕ)
    → ((r : Relation) → rows ≡ rows_of r → (a x : ℕ) → a < width → x < width → T (mem F a and mem asked x) → in_row gone a x ≡ (r a x and non (H a x)))
    → Less rows (λ a x. mem F a and (mem asked x and in_row gone a x)) left → Less rows (λ a x. mem F a and mem asked x and non (H a x)) left
open-lost F asked H rows left gone hg l =
    less_by rows left _ _
    (λ r hr a x la lx.
    ap (λ (b : Bool). r a x and non b) (sym (and_assoc (mem F a) (mem asked x) (in_row gone a x)) ∙ where-so (mem F a and mem asked x) _ _ (hg r hr a x la lx))
    ∙ by4 (λ r f k h. r and non (f and k and (r and non h))) (λ r f k h. r and non (f and k and non h)) (unfold ◌and◌ ◌or◌ non in tt)
    (r a x) (mem F a) (mem asked x) (H a x)) l

-- what is not in doubt goes, and then this
pub sure-then-open : (before laters includes : List ℕ) (u : ℕ) (F asked later : Set) (H : Relation) (rows between left : List ℕ) → later ≡ row_at laters u
    → Less rows (λ a x. mem F a and (mem asked x and non (doubted before includes later a x))) between
    → Less between (λ a x. mem F a and mem asked x and non (H a x)) left
    → Less rows (λ a x. mem F a and mem asked x and non (doubted before includes (row_at laters u) a x and H a x)) left
sure-then-open before laters includes u F asked later H rows between left hl l m =
    less_as rows left _ _
    (λ a x la lx.
    ap (λ (s : Set). mem F a and (mem asked x and non (doubted before includes s a x)) or mem F a and mem asked x and non (H a x)) hl
    ∙ by4 (λ f k d h. f and (k and non d) or f and k and non h) (λ f k d h. f and k and non (d and h)) (unfold ◌and◌ ◌or◌ non in tt)
    (mem F a) (mem asked x) (doubted before includes (row_at laters u) a x) (H a x))
    (less-more rows between left _ _ l m)

-- ---- all that one u makes redundant

module _ (tally followers includes excludes : List ℕ) (L : Traces) (u : ℕ) (F free out asked : Set) (rows : List ℕ) (b : Bool)
    (h_f : F ≡ row_at followers u) (hf : free ≡ those (λ x. in_row excludes u x and non (in_row includes u x)))
    (ho : out ≡ those (λ x. some_below width (λ a. mem F a and in_row (table_at rows 0) a x))) (ha : asked ≡ those (λ x. mem free x and mem out x))
    (hb : b ≡ is_empty asked) where
  abbrev safe : Relation
  safe a x =
      non (doubted (table_at tally before_table) includes (row_at (table_at tally later_table) u) a x and reopened includes u L a x)

  -- a pair that is left from a member is asked for where u shuts its target out
  asked-where : (r : Relation) → rows ≡ rows_of r → (a x : ℕ) → a < width → x < width → T (r a x) → T (mem F a)
      → mem asked x ≡ (in_row excludes u x and non (in_row includes u x))
  asked-where r hr a x la lx t m =
      is-those asked _ ha x lx
      ∙ ap₂ ◌and◌ (is-those free _ hf x lx) (is-those out _ ho x lx ∙ T→true _ (in-union F rows r hr a x la lx m t))
      ∙ and-true _

  same-gone : (r : Relation) → rows ≡ rows_of r → (a x : ℕ) → a < width → x < width → T (r a x)
      → (mem F a and mem asked x and safe a x) ≡ redundant_by tally followers includes excludes L u a x
  unfolding redundant_by in_row
  same-gone r hr a x la lx t =
      ap (λ (c : Bool). c and safe a x)
      (where-so (mem F a) (mem asked x) _ (asked-where r hr a x la lx t)
      ∙ and_comm _ _
      ∙ ap (λ (s : Set). in_row excludes u x and non (in_row includes u x) and mem s a) h_f)

  pub lost-by : (left : List ℕ) → Less rows (λ a x. mem F a and mem asked x and safe a x) left
      → Less rows (redundant_by tally followers includes excludes L u) left
  lost-by left l = less_by rows left _ _ (λ r hr a x la lx. where-so (r a x) _ _ (λ t. ap non (same-gone r hr a x la lx t))) l

  pub none-lost : b ≡ true → Less rows (redundant_by tally followers includes excludes L u) rows
  none-lost n =
      lost-by rows
      (less_none rows rows _ refl
      (λ a x la lx. F→false _ (λ t. empty-e asked (true→T (sym hb ∙ n)) x lx (and_r _ _ (and_l _ _ t)))))

pub redundant-end : (tally followers includes excludes : List ℕ) (L : Traces) (rows left : List ℕ) (all rest whole : Set)
    → followers ≡ followers_of whole tally
    → Lost (redundant_by tally followers includes excludes L) rows all rest left → is_empty rest ≡ true → all ≡ whole
    → Less rows (λ a x. some_below width (λ u. mem whole u and redundant_by tally (followers_of whole tally) includes excludes L u a x)) left
redundant-end tally followers includes excludes L rows left all rest whole hf l n same =
    subst (λ (f : List ℕ). Less rows (λ a x. some_below width (λ u. mem whole u and redundant_by tally f includes excludes L u a x)) left) hf
    (lost-end (redundant_by tally followers includes excludes L) rows left all rest whole l n same)

-- The transitive reduction, by loops over the members of a row: what is known of a row while its targets are judged and its middles are
-- tried. Assumes nothing.
use mathlib.Core.Path.{◌≡◌, refl, sym, ap, ap₂, ◌∙◌, subst}
use mathlib.Core.Bool.{Bool, true, false}
use mathlib.Core.List.{List}
use Prim.Native.Nat.{ℕ, ◌-◌, ◌≤◌, ◌<◌}
use lib.ListN.{length}
use native.Mathlib.Omega.{arith}
use borrow.Author.Rules.{rules}
use borrow.Author.Tests.{ltb-true, ltb-false}
use lib.Dec.{T, eqb, eqb→eq, eqb_refl, ltb}
use Rattle.sets.specs.Tests.{◌and◌, ◌or◌, non}
use Rattle.sets.specs.Members.{no_set, width, word, mem, those, is_empty, some_below, least_below, within, Takes}
use Rattle.sets.specs.Rows.{row_words, row_at, in_row}
use Rattle.sets.specs.Tables.{table_at}
use Rattle.sets.specs.declared.set.Set.{Set}
use Rattle.sets.proofs.Tests.{and_i, and_l, and_r, or-e, or_l, or_r, non-i, non-e, T-ext, T-eq, T→true, true→T, false→F, F→false, split, either}
use Rattle.sets.proofs.Below.{some-i, some-e, least-is, least-before}
use Rattle.sets.proofs.Members.{Whole, mem-none, none-those, those-ext, those-of, empty-e, within-e, within-i}
use Rattle.sets.proofs.Passing.{Part, least-low}
use Rattle.sets.proofs.TableLaws.{row-alone}
use Rattle.sets.proofs.MadeSets.{Is, is-those, is_row}
use Rattle.steps.specs.Rowwise.{reduced_of, fits}

-- ---- a target, while it is the lowest of those left

pub record Lowest (t : ℕ) (targets : Set) : Type 0 where
  pub low : t < width
  pub here : T (mem targets t)
  pub above : (a : ℕ) → a < width → T (mem targets a) → t ≤ a

pub lowest-first : (targets : Set) (t : ℕ) (r : Bool) → r ≡ is_empty targets → r ≡ false → t ≡ least_below width (mem targets) → Lowest t targets
lowest-first targets t r hr hn ht =
    let low = least-low targets _ r hr hn refl in
    record {
      low = omega arith;
      here = subst (λ (n : ℕ). T (mem targets n)) (sym ht) (least-is width (mem targets) low);
      above = λ a l m.
          either (split (ltb a t))
          (λ y. absurd (false→F (least-before width (mem targets) a (omega (arith, ltb-true a t (T→true _ y)))) m))
          (λ n. ltb-false a t (F→false _ n));
    }

module _ (t : ℕ) (targets targets' gone : Set) (ht : targets' ≡ those (λ a. mem targets a and non (mem gone a))) (h : Lowest t targets) where
  stay : Is targets' (λ a. mem targets a and non (mem gone a))
  stay = is-those targets' _ ht

  -- others go
  pub lowest-next : (b : Bool) → b ≡ mem gone t → b ≡ false → Lowest t targets'
  lowest-next b hb hf =
      record {
        low = h.low;
        here = T-eq (sym (stay t h.low)) (and_i _ _ h.here (non-i _ (false→F (sym hb ∙ hf))));
        above = λ a l m. h.above a l (and_l _ _ (T-eq (stay a l) m));
      }

  -- it goes too: the lowest is then above it
  nearer : (targets₀ : Set) → t ≡ least_below width (mem targets₀) → T (mem gone t)
      → width - least_below width (mem targets') < width - least_below width (mem targets₀)
  nearer targets₀ hl g =
      let k : ℕ = least_below width (mem targets') in
      let later : t < k = either (split (ltb t k)) (λ y. ltb-true t k (T→true _ y)) (λ n.
      let under : k < width = omega (arith, h.low, ltb-false t k (F→false _ n)) in
      let m = T-eq (stay k under) (least-is width (mem targets') under) in
      let same : t ≡ k = omega (arith, h.above k under (and_l _ _ m), ltb-false t k (F→false _ n)) in
      absurd (non-e _ (and_r _ _ m) (subst (λ (n : ℕ). T (mem gone n)) same g))) in
      omega (arith, h.low)

  pub goes-nearer : (targets₀ : Set) (b : Bool) → t ≡ least_below width (mem targets₀) → b ≡ mem gone t → b ≡ true
      → width - least_below width (mem targets') < width - least_below width (mem targets₀)
  goes-nearer targets₀ b hl hb hf = nearer targets₀ hl (true→T (sym hb ∙ hf))

  pub stays-nearer : (targets₀ : Set) → t ≡ least_below width (mem targets₀) → gone ≡ those (λ b. eqb b t)
      → width - least_below width (mem targets') < width - least_below width (mem targets₀)
  stays-nearer targets₀ hl hg = nearer targets₀ hl (T-eq (sym (is-those gone (λ b. eqb b t) hg t h.low)) (eqb_refl t))

-- ---- the targets of one source

-- what is kept is the reduction's, and so is a target that is left where no middle that is left joins it; all of the reduction is kept or left
pub record Judging (rows : List ℕ) (s : ℕ) (kept targets middles : Set) : Type 0 where
  pub right : (x : ℕ) → x < width → T (mem kept x) → T (reduced_of rows s x)
  pub free : (x : ℕ) → x < width → T (mem targets x) → ((u : ℕ) → u < width → T (mem middles u) → T (in_row rows u x) → ⊥) → T (reduced_of rows s x)
  pub whole : (x : ℕ) → x < width → T (reduced_of rows s x) → T (mem kept x or mem targets x)
  pub middle : (u : ℕ) → u < width → T (mem middles u) → T (in_row rows s u)
  pub is_set : Whole kept

pub judging-first : (rows : List ℕ) (s : ℕ) (from : Set) → Is from (in_row rows s) → Judging rows s no_set from from
unfolding reduced_of
judging-first rows s from h =
    record {
      right = λ x l t. absurd (false→F (mem-none x) t);
      free = λ x l t none.
          and_i _ _ (T-eq (h x l) t) (non-i _ (λ k.
          let u = some-e width _ k in
          none u.0 u.1 (T-eq (sym (h u.0 u.1)) (and_l _ _ u.2)) (and_r _ _ u.2)));
      whole = λ x l t. or_r _ _ (T-eq (sym (h x l)) (and_l _ _ t));
      middle = λ u l t. T-eq (h u l) t;
      is_set = sym (none-those (mem no_set) (λ x l. mem-none x));
    }

-- a loop over the members of a row begins with all of them
pub judging-from : (rows : List ℕ) (s : ℕ) (from rest : Set) → Is from (in_row rows s) → rest ≡ from → Judging rows s no_set from rest
judging-from rows s from rest h e = subst (λ (m : Set). Judging rows s no_set from m) (sym e) (judging-first rows s from h)

-- what is said of each event's row holds of the row of the source at hand
pub source-fits : (wide : Bool) (rows : List ℕ) (events all rest rest' : Set) (s : ℕ)
    → ((a : ℕ) → a < width → mem events a ≡ true → fits wide rows a ≡ true) → all ≡ events → Part all rest → Takes rest s rest'
    → fits wide rows s ≡ true
source-fits wide rows events all rest rest' s h e p t =
    let first = lowest-first rest s _ refl t.0 t.1 in
    h s first.low (T→true _ (subst (λ (n : Set). T (mem n s)) e (p s first.low first.here)))

-- in the narrow form the row lies below 64
narrow-within : (wide : Bool) (rows : List ℕ) (s : ℕ) → fits wide rows s ≡ true → wide ≡ false → within (row_at rows s) (those (λ b. ltb b word)) ≡ true
unfolding fits ◌or◌
narrow-within wide rows s h n = sym (ap (λ (t : Bool). t or within (row_at rows s) (those (λ b. ltb b word))) n) ∙ h

-- a row that lies within a set loses nothing where it is cut to it
pub is_cut : (rows : List ℕ) (s : ℕ) (row cut from : Set) (r : Bool) → row ≡ row_at rows s → r ≡ within row cut → r ≡ true
    → from ≡ those (λ a. mem row a and mem cut a) → Is from (in_row rows s)
is_cut rows s row cut from r e hr ht hf x l =
    is-those from _ hf x l
    ∙ T-ext _ _ (λ t. and_l _ _ t) (λ t. and_i _ _ t (within-e row cut (true→T (sym hr ∙ ht)) x l t))
    ∙ is_row row rows s e x l

pub fits-narrow : (rows : List ℕ) (s : ℕ) (row low : Set) (r : Bool) → row ≡ row_at rows s → low ≡ those (λ b. ltb b word) → r ≡ within row low
    → r ≡ true → fits false rows s ≡ true
unfolding fits ◌or◌
fits-narrow rows s row low r hw hl hr ht = ap₂ within (sym hw) (sym hl) ∙ sym hr ∙ ht

-- where all that stands in the events' rows lies below 64, each of these rows does
pub all-fit : (rows : List ℕ) (events all low : Set) (r : Bool) → length rows ≡ row_words
    → all ≡ those (λ x. some_below width (λ u. mem events u and in_row (table_at rows 0) u x)) → low ≡ those (λ b. ltb b word)
    → r ≡ within all low → r ≡ true → (a : ℕ) → a < width → mem events a ≡ true → fits false rows a ≡ true
unfolding in_row
all-fit rows events all low r long ha hl hr ht a l m =
    fits-narrow rows a (row_at rows a) low (within (row_at rows a) low) refl hl refl
    (T→true _ (within-i (row_at rows a) low (λ x lx t.
    within-e all low (true→T (sym hr ∙ ht)) x lx
    (T-eq (sym (is-those all _ ha x lx)) (some-i width _ a l (and_i _ _ (true→T m) (subst (λ (s : Set). T (mem s x)) (sym (row-alone rows long a _ refl)) t)))))))

pub fits-wide : (rows : List ℕ) (s : ℕ) → fits true rows s ≡ true
unfolding fits ◌or◌
fits-wide rows s = refl

pub narrow-cut : (wide : Bool) (rows : List ℕ) (s : ℕ) (row low from : Set) → fits wide rows s ≡ true → wide ≡ false → row ≡ row_at rows s
    → low ≡ those (λ b. ltb b word) → from ≡ those (λ a. mem row a and mem low a) → Is from (in_row rows s)
narrow-cut wide rows s row low from h n hr hl hf =
    is_cut rows s row low from (within row low) hr refl (ap₂ within hr hl ∙ narrow-within wide rows s h n) hf

module _ (rows : List ℕ) (s : ℕ) (kept targets middles : Set) (h : Judging rows s kept targets middles) where
  -- a middle is tried: all targets that it joins go
  pub judging-goes : (u : ℕ) (joined targets' middles' : Set) → Takes middles u middles' → joined ≡ row_at rows u
      → targets' ≡ those (λ a. mem targets a and non (mem joined a)) → Judging rows s kept targets' middles'
  unfolding reduced_of
  judging-goes u joined targets' middles' t hj ht =
      let hu = t.1 in
      let first = lowest-first middles u _ refl t.0 hu in
      let stays = is-those targets' _ ht in
      let left = is-those middles' _ t.2 in
      let joins = is_row joined rows u hj in
      record {
        right = h.right;
        free = λ x l m none.
            let p = T-eq (stays x l) m in
            h.free x l (and_l _ _ p) (λ v k n j.
            either (split (eqb v (least_below width (mem middles))))
            (λ e. non-e _ (and_r _ _ p) (T-eq (sym (joins x l)) (subst (λ (w : ℕ). T (in_row rows w x)) (eqb→eq v _ e ∙ sym hu) j)))
            (λ d. none v k (T-eq (sym (left v k)) (and_i _ _ n (non-i _ d))) j));
        whole = λ x l k.
            either (or-e _ _ (h.whole x l k)) (λ m. or_l _ _ m) (λ m. or_r _ _ (T-eq (sym (stays x l)) (and_i _ _ m (non-i _ (λ j.
            non-e _ (and_r _ _ k) (some-i width _ u first.low (and_i _ _ (h.middle u first.low first.here) (T-eq (joins x l) j))))))));
        middle = λ v k m. h.middle v k (and_l _ _ (T-eq (left v k) m));
        is_set = h.is_set;
      }

  -- no middle is left: the pair stays
  pub judging-stays : (t : ℕ) (one same kept' targets' none : Set) → is_empty middles ≡ true → none ≡ middles → Lowest t targets
      → one ≡ those (λ b. eqb b t) → kept' ≡ those (λ a. mem kept a or mem one a) → same ≡ those (λ b. eqb b t)
      → targets' ≡ those (λ a. mem targets a and non (mem same a)) → Judging rows s kept' targets' none
  judging-stays t one same kept' targets' none he hn lt ho hk hs ht =
      let gains = is-those kept' _ (hk ∙ those-of one (λ b. eqb b t) (λ a q. mem kept a or q) ho) in
      let loses = is-those targets' _ (ht ∙ those-of same (λ b. eqb b t) (λ a q. mem targets a and non q) hs) in
      record {
        right = λ x l k.
            either (or-e _ _ (T-eq (gains x l) k)) (h.right x l)
            (λ e. subst (λ (n : ℕ). T (reduced_of rows s n)) (sym (eqb→eq x t e)) (h.free t lt.low lt.here
            (λ u v m j. empty-e middles (true→T he) u v m)));
        free = λ x l m k. h.free x l (and_l _ _ (T-eq (loses x l) m)) (λ u v n. absurd (empty-e middles (true→T he) u v n));
        whole = λ x l k.
            either (or-e _ _ (h.whole x l k)) (λ m. or_l _ _ (T-eq (sym (gains x l)) (or_l _ _ m))) (λ m.
            either (split (eqb x t)) (λ e. or_l _ _ (T-eq (sym (gains x l)) (or_r _ _ e)))
            (λ d. or_r _ _ (T-eq (sym (loses x l)) (and_i _ _ m (non-i _ d)))));
        middle = λ u l m. h.middle u l (subst (λ (n : Set). T (mem n u)) hn m);
        is_set = those-of kept' _ (λ a q. q) hk ∙ sym hk;
      }

  -- no target is left: the row is the reduction's
  pub judging-end : (r : Bool) → r ≡ is_empty targets → r ≡ true → kept ≡ those (reduced_of rows s)
  judging-end r hr he =
      sym h.is_set ∙ those-ext (mem kept) (reduced_of rows s) (λ x l. T-ext _ _ (h.right x l) (λ t.
      either (or-e _ _ (h.whole x l t)) (λ k. k) (λ k. absurd (empty-e targets (true→T (sym hr ∙ he)) x l k))))

-- what the goals of the loops cite
pub ruleset reducing = (judging-goes, judging-stays, judging-end, lowest-first, lowest-next, goes-nearer, stays-nearer, rules)

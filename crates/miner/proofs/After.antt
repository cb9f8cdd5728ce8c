-- Step 6's pass: the table of last places, what it tells of what stands after a place, and one turn of the pass. Assumes nothing.
use mathlib.Core.Path.{◌≡◌, refl, sym, ap, ◌∙◌, subst, ap₂}
use mathlib.Core.Bool.{Bool, true, false, cond}
use mathlib.Core.Logic.{◌⊎◌, inl, inr}
use mathlib.Core.List.{List, [], ◌∷◌}
use Prim.Native.Nat.{ℕ, zero, suc, ◌+◌, ◌≤◌, ◌<◌}
use native.Mathlib.Nat.{not-suc-le-zero, le_of_suc-le-suc}
use native.Mathlib.Numerals.{add-one}
use native.Mathlib.Omega.{arith}
use borrow.Author.Tests.{lt-ltb, le-ltb, ltb-true, ltb-false, eq-eqb, ne_eqb, eqb-true, eqb-false}
use lib.Dec.{T, eqb, ltb, eqb→eq}
use lib.ListN.{length, get_or, set, drop, length-set, replicate, length-replicate, drop_of_length-le}
use lib.Seq.{get_or-set_same, get_or-set_other}
use Rattle.sets.specs.Tests.{◌and◌, ◌or◌, non}
use Rattle.sets.specs.Members.{width, mem, those, no_set, some_below}
use Rattle.sets.specs.declared.set.Set.{Set}
use Rattle.sets.specs.Rows.{row_at, in_row}
use Rattle.sets.proofs.Tests.{T→true, true→T, F→false, or-e, neither, split, either, and_comm, and-true, false-and, non-non, and_l, and-false, or_comm, false→F}
use Rattle.sets.proofs.Members.{those-ext, those-of, those-mem, Fits, mem-none}
use Rattle.sets.proofs.Below.{some-e, some-ext, some_more}
use Rattle.sets.proofs.RowLaws.{row_out}
use Rattle.sets.proofs.MadeSets.{is-those, none}
use Rattle.sets.proofs.Tautologies.{by3}
use Rattle.rules.specs.Traces.{◌has◌}
use Rattle.tally.specs.Passes.{gained, gains, forward, reaches, cut}
use Rattle.tally.proofs.Turns.{rest-next, seen_in, past_at, past_next, gains-row, forward-next, forward-end}
use Rattle.miner.specs.Facts.{places_from, let_in}

-- ---- a table in which a place is put down

abbrev pub put_place : List ℕ → ℕ → ℕ → List ℕ
put_place last e i = cond (ltb e width) (set last e i) last

module _ (last : List ℕ) (e i : ℕ) where
  pub place_in : e < width → set last e i ≡ put_place last e i
  place_in l = rw (lt-ltb e width l)

  pub place_out : width ≤ e → last ≡ put_place last e i
  place_out l = rw (le-ltb e width l)

  by_row : (P : List ℕ → Type 0) → P (set last e i) → P last → P (put_place last e i)
  by_row P s l =
      either (split (ltb e width))
      (λ t. subst P (place_in (ltb-true e width (T→true _ t))) s)
      (λ g. subst P (place_out (ltb-false e width (F→false _ g))) l)

  length-place : length (put_place last e i) ≡ length last
  length-place = by_row (λ l. length l ≡ length last) (length-set last e i) refl

  place_other : (x : ℕ) → eqb x e ≡ false → get_or (put_place last e i) x 0 ≡ get_or last x 0
  place_other x n = by_row (λ l. get_or l x 0 ≡ get_or last x 0) (get_or-set_other last e x i 0 (eqb-false x e n)) refl

  place_same : length last ≡ width → e < width → get_or (put_place last e i) e 0 ≡ i
  place_same len l =
      ap (λ (r : List ℕ). get_or r e 0) (sym (place_in l)) ∙ get_or-set_same last e i 0 (subst (λ (n : ℕ). e < n) (sym len) l)

-- ---- the table has the last place of every activity of the list: a place is the last where its activity does not come again

abbrev pub LastOf : List ℕ → List ℕ → Type 0
LastOf last τ = (i : ℕ) → i < length τ → get_or τ i 0 < width → eqb (get_or last (get_or τ i 0) 0) i ≡ non (drop (i + 1) τ has get_or τ i 0)

-- what does not come again keeps its place
kept_from : (last : List ℕ) (i : ℕ) (rest : List ℕ) (x : ℕ) → rest has x ≡ false → get_or (places_from last i rest) x 0 ≡ get_or last x 0
unfolding places_from ◌has◌
kept_from last i [] x h = refl
kept_from last i (e ∷ rest) x h =
    let apart = neither _ _ h in kept_from (put_place last e i) (suc i) rest x apart.1 ∙ place_other last e i x apart.0

-- what comes again has a later one
later-from : (last : List ℕ) (i : ℕ) (rest : List ℕ) (x : ℕ) → length last ≡ width → x < width → T (rest has x)
    → i ≤ get_or (places_from last i rest) x 0
unfolding places_from ◌has◌
later-from last i [] x len l t = absurd t
later-from last i (e ∷ rest) x len l t = go (split (rest has x)) (later-from (put_place last e i) (suc i) rest x (length-place last e i ∙ len) l)
  where
    go : T (rest has x) ⊎ (T (rest has x) → ⊥) → (T (rest has x) → suc i ≤ get_or (places_from (put_place last e i) (suc i) rest) x 0)
        → i ≤ get_or (places_from (put_place last e i) (suc i) rest) x 0
    go (inl again) ih = omega (arith, ih again)
    go (inr none) ih =
        let same : x ≡ e = either (or-e _ _ t) (eqb→eq x e) (λ k. absurd (none k)) in
        let here : get_or (places_from (put_place last e i) (suc i) rest) x 0 ≡ i = kept_from (put_place last e i) (suc i) rest x (F→false _ none)
        ∙ ap (λ (n : ℕ). get_or (put_place last e i) n 0) same ∙ place_same last e i len (subst (λ (n : ℕ). n < width) same l) in
        omega (arith, here)

last-from : (last : List ℕ) (i : ℕ) (rest : List ℕ) (k : ℕ) → length last ≡ width → k < length rest → get_or rest k 0 < width
    → eqb (get_or (places_from last i rest) (get_or rest k 0) 0) (i + k) ≡ non (drop (suc k) rest has get_or rest k 0)
unfolding places_from non
last-from last i [] k len h l = absurd (not-suc-le-zero h)
last-from last i (e ∷ rest) zero len h l = go (rest has e) refl
  where
    go : (b : Bool) → rest has e ≡ b → eqb (get_or (places_from (put_place last e i) (suc i) rest) e 0) (i + 0) ≡ non b
    go true q =
        let later = later-from (put_place last e i) (suc i) rest e (length-place last e i ∙ len) l (true→T q) in
        ne_eqb _ (i + 0) (λ s. omega (arith, later, s))
    go false q =
        let here = kept_from (put_place last e i) (suc i) rest e q ∙ place_same last e i len l in
        eq-eqb _ (i + 0) (omega (arith, here))
last-from last i (e ∷ rest) (suc k) len h l =
    let next : i + suc k ≡ suc i + k = omega arith in
    ap (eqb (get_or (places_from (put_place last e i) (suc i) rest) (get_or rest k 0) 0)) next
    ∙ last-from (put_place last e i) (suc i) rest k (length-place last e i ∙ len) (le_of_suc-le-suc h) l

-- ---- the pass that fills the table: what is left of it, from the table as it is, gives the whole

module _ (σ all : List ℕ) (i : ℕ) (last : List ℕ) (inv : places_from last i (drop i σ) ≡ all) where
  pub places-next : (last' : List ℕ) → i < length σ → last' ≡ put_place last (get_or σ i 0) i → places_from last' (i + 1) (drop (i + 1) σ) ≡ all
  unfolding places_from
  places-next last' h hp =
      (λ j. places_from (hp j) (add-one i j) (drop (i + 1) σ)) ∙ ap (places_from last i) (sym (rest-next σ i h)) ∙ inv

  pub places-end : length σ ≤ i → last ≡ all
  unfolding places_from
  places-end h = ap (places_from last i) (sym (drop_of_length-le σ h)) ∙ inv

-- from a table of zeros
pub last-known : (σ last : List ℕ) → last ≡ places_from (replicate width 0) 0 σ → LastOf last σ
last-known σ last h i l k =
    let first : i ≡ 0 + i = omega arith in
    ap (λ (table : List ℕ). eqb (get_or table (get_or σ i 0) 0) i) h
    ∙ ap (eqb (get_or (places_from (replicate width 0) 0 σ) (get_or σ i 0) 0)) first
    ∙ last-from (replicate width 0) 0 σ i (length-replicate {A = ℕ} width 0) l k
    ∙ ap (λ (n : ℕ). non (drop n σ has get_or σ i 0)) (sym (add-one i))

-- ---- what stands after a place, from what stands from it on

-- the answers of `left_after`: by the table it is the last, or it is not, or there is no row for it
module _ (after : Set) (last : List ℕ) (e i : ℕ) where
  abbrev leaving : ℕ → Bool
  leaving x = mem after x and non (eqb x e and eqb (get_or last e 0) i)

  pub left-last : (gone r : Set) → gone ≡ those (λ b. eqb (get_or last e 0) i and eqb b e) → r ≡ those (λ x. mem after x and non (mem gone x))
      → r ≡ those leaving
  left-last gone r hg hr =
      hr ∙ those-of gone (λ b. eqb (get_or last e 0) i and eqb b e) (λ x c. mem after x and non c) hg
      ∙ those-ext (λ x. mem after x and non (eqb (get_or last e 0) i and eqb x e)) leaving
      (λ x l. ap (λ (c : Bool). mem after x and non c) (and_comm (eqb (get_or last e 0) i) (eqb x e)))

  stays : (x : ℕ) → (eqb x e and eqb (get_or last e 0) i) ≡ false → mem after x ≡ leaving x
  unfolding non
  stays x f = sym (and-true (mem after x)) ∙ ap (λ (c : Bool). mem after x and non c) (sym f)

  pub left_out : Fits after → width ≤ e → after ≡ those leaving
  left_out s g =
      sym (those-mem after s)
      ∙ those-ext (mem after) leaving
      (λ x l. stays x (ap (λ (c : Bool). c and eqb (get_or last e 0) i) (ne_eqb x e (λ q. omega arith)) ∙ false-and (eqb (get_or last e 0) i)))

pub after_next : (σ : List ℕ) (i : ℕ) → i < length σ → (last : List ℕ) → LastOf last σ → (after r : Set) → after ≡ seen_in (drop i σ)
    → r ≡ those (λ x. mem after x and non (eqb x (get_or σ i 0) and eqb (get_or last (get_or σ i 0) 0) i)) → r ≡ seen_in (drop (i + 1) σ)
unfolding ◌has◌ ◌or◌ ◌and◌ non
after_next σ i h last hl after r ha hr =
    hr ∙ those-of after (λ x. drop i σ has x) (λ x c. c and non (eqb x e and eqb (get_or last e 0) i)) ha
    ∙ those-ext (λ x. drop i σ has x and non (eqb x e and eqb (get_or last e 0) i)) (λ x. drop (i + 1) σ has x)
    (λ x l. ap (λ (τ : List ℕ). τ has x and non (eqb x e and eqb (get_or last e 0) i)) (rest-next σ i h) ∙ pick x l (eqb x e) refl)
  where
    e : ℕ
    e = get_or σ i 0

    pick : (x : ℕ) → x < width → (b : Bool) → eqb x e ≡ b
        → ((eqb x e or drop (i + 1) σ has x) and non (eqb x e and eqb (get_or last e 0) i)) ≡ drop (i + 1) σ has x
    pick x l true t =
        let same : x ≡ e = eqb-true x e t in
        ap (λ (c : Bool). (c or drop (i + 1) σ has x) and non (c and eqb (get_or last e 0) i)) t
        ∙ ap non (hl i h (subst (λ (n : ℕ). n < width) same l))
        ∙ non-non (drop (i + 1) σ has e)
        ∙ ap (λ (n : ℕ). drop (i + 1) σ has n) (sym same)
    pick x l false f =
        ap (λ (c : Bool). (c or drop (i + 1) σ has x) and non (c and eqb (get_or last e 0) i)) f
        ∙ and-true (drop (i + 1) σ has x)

-- a row that has a member is one of the rows
row_below : (rows : List ℕ) (s x : ℕ) → T (in_row rows s x) → s < width
unfolding in_row
row_below rows s x t =
    either (split (ltb s width)) (λ l. ltb-true s width (T→true _ l))
    (λ g. absurd (false→F (ap (λ (r : Set). mem r x) (sym (row_out rows s (ltb-false s width (F→false _ g)))) ∙ mem-none x) t))

module _ (unfollowed : List ℕ) where
  -- x never directly follows something that stands in the past
  abbrev barred_at : List ℕ → ℕ → Bool
  barred_at past x = some_below width (λ s. past has s and in_row unfollowed s x)

  barred-more : (past : List ℕ) (e x : ℕ) → (barred_at past x or in_row unfollowed e x) ≡ barred_at (e ∷ past) x
  unfolding ◌has◌
  barred-more past e x =
      sym (some-ext width _ _ (λ s l. ap (λ (t : Bool). t and in_row unfollowed s x) (or_comm (eqb s e) (past has s)))
      ∙ some_more width (λ s. past has s) (λ s. in_row unfollowed s x) e (row_below unfollowed e x))

  -- ---- in either form
  module _ (wide : Bool) where
    abbrev pub barred_in : List ℕ → Set
    barred_in past = those (λ x. reaches wide x and barred_at past x)

    barred-none : ◌≡◌ {A = Set} no_set (barred_in [])
    unfolding ◌has◌
    barred-none = none (λ x. reaches wide x and barred_at [] x) (λ x l. ap (λ (t : Bool). reaches wide x and t) (F→false (barred_at [] x)
        (λ t. let r = some-e width (λ s. [] has s and in_row unfollowed s x) t in and_l _ _ r.2)) ∙ and-false (reaches wide x))

    -- the answers of `let_in_here`
    pub barred-by : (barred row never r : Set) (e : ℕ) → row ≡ row_at unfollowed e → never ≡ those (λ x. reaches wide x and mem row x)
        → r ≡ those (λ x. mem barred x or mem never x) → r ≡ those (λ x. mem barred x or reaches wide x and in_row unfollowed e x)
    unfolding in_row
    barred-by barred row never r e ho hn hr =
        hr ∙ those-of never (λ x. reaches wide x and mem row x) (λ x t. mem barred x or t) hn
        ∙ ap (λ (s : Set). those (λ x. mem barred x or reaches wide x and mem s x)) ho

-- the loop, in either form: what holds before each turn, and that a turn keeps it
pub record LetIn (wide : Bool) (σ unfollowed rows₀ rows : List ℕ) (after barred : Set) (i : ℕ) : Type 0 where
  pub reached : i ≤ length σ
  pub after_is : after ≡ seen_in (drop i σ)
  pub barred-is : barred ≡ barred_in unfollowed wide (past_at σ i)
  pub whole : forward (gains (cut wide (let_in unfollowed))) rows (past_at σ i) (drop i σ) ≡ forward (gains (cut wide (let_in unfollowed))) rows₀ [] σ

pub let-in-start : (wide : Bool) (σ unfollowed rows : List ℕ) (after : Set) → after ≡ those (λ x. σ has x)
    → LetIn wide σ unfollowed rows rows after no_set 0
let-in-start wide σ unfollowed rows after h =
    record { reached = omega arith; after_is = h; barred-is = barred-none unfollowed wide; whole = refl }

module _ {wide : Bool} {σ unfollowed rows₀ rows : List ℕ} {after barred : Set} {i : ℕ} (inv : LetIn wide σ unfollowed rows₀ rows after barred i) where
  pub let-in-end : length σ ≤ i → rows ≡ forward (gains (cut wide (let_in unfollowed))) rows₀ [] σ
  let-in-end h = forward-end _ _ _ _ _ h inv.whole

  pub let-in-turn : i < length σ → (last : List ℕ) → LastOf last σ → (later barred' : Set) (rows' : List ℕ)
      → later ≡ those (λ x. mem after x and non (eqb x (get_or σ i 0) and eqb (get_or last (get_or σ i 0) 0) i))
      → (rows' ≡ gained rows (get_or σ i 0) (λ x. mem later x and mem barred x))
      × (barred' ≡ those (λ x. mem barred x or reaches wide x and in_row unfollowed (get_or σ i 0) x))
      → LetIn wide σ unfollowed rows₀ rows' later barred' (i + 1)
  unfolding cut let_in
  let-in-turn h last hl later barred' rows' ht (hr, hb) =
      let rest : later ≡ seen_in (drop (i + 1) σ) = after_next σ i h last hl after later inv.after_is ht in
      record {
        reached = omega arith;
        after_is = rest;
        barred-is =
            hb ∙ those-of barred (λ x. reaches wide x and barred_at unfollowed (past_at σ i) x)
            (λ x t. t or reaches wide x and in_row unfollowed (get_or σ i 0) x) inv.barred-is
            ∙ those-ext _ (λ x. reaches wide x and barred_at unfollowed (get_or σ i 0 ∷ past_at σ i) x)
            (λ x l. by3 (λ g b r. g and b or g and r) (λ g b r. g and (b or r)) (unfold ◌and◌ ◌or◌ non in tt)
            (reaches wide x) (barred_at unfollowed (past_at σ i) x) (in_row unfollowed (get_or σ i 0) x)
            ∙ ap (λ (t : Bool). reaches wide x and t) (barred-more unfollowed (past_at σ i) (get_or σ i 0) x))
            ∙ ap (barred_in unfollowed wide) (sym (past_next σ i h));
        whole =
            forward-next (gains (cut wide (let_in unfollowed))) σ _ i rows rows' h
            (gains-row (cut wide (let_in unfollowed)) rows (get_or σ i 0) (past_at σ i) (drop (i + 1) σ) (λ x. mem later x and mem barred x) rows'
            (λ l x k.
            ap₂ ◌and◌ (is-those later (λ y. drop (i + 1) σ has y) rest x k)
            (is-those barred (λ y. reaches wide y and barred_at unfollowed (past_at σ i) y) inv.barred-is x k)
            ∙ by3 (λ h g b. h and (g and b)) (λ h g b. g and (h and b)) (unfold ◌and◌ ◌or◌ non in tt) (drop (i + 1) σ has x) (reaches wide x) (barred_at unfollowed (past_at σ i) x))
            hr)
            inv.whole;
      }

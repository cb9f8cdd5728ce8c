-- Which steps can be the last: the table of what settles what, how it narrows a set, and that no step is lost by it. Assumes nothing.
use mathlib.Core.Path.{◌≡◌, refl, sym, ap, subst, ◌∙◌}
use mathlib.Core.Bool.{Bool, true, false}
use mathlib.Core.List.{List}
use Prim.Native.Nat.{ℕ, ◌-◌, ◌<◌}
use native.Mathlib.Omega.{arith}
use borrow.Author.Tests.{eq-eqb, ne_eqb, eqb-true}
use lib.Dec.{T, eqb, eqb→eq}
use Rattle.sets.specs.Tests.{◌and◌, ◌or◌, non, when◌then◌else◌}
use Rattle.sets.specs.Members.{width, mem, those, no_set, some_below, least_below, is_empty, Takes}
use Rattle.sets.specs.Rows.{row_at, in_row, rows_of, rows_for, turned}
use Rattle.sets.specs.Tables.{table_at}
use Rattle.sets.specs.Answers.{is_done}
use Rattle.sets.specs.declared.set.Set.{Set}
use Rattle.sets.proofs.Tests.{and_l, and_r, and_i, or_l, or_r, non-i, non-e, imp-i, imp-e}
use Rattle.sets.proofs.Tests.{T-eq, T-ext, true→T, F→false, split, either}
use Rattle.sets.proofs.Below.{some-i, some-e, every-i, every-e, least-is}
use Rattle.sets.proofs.Members.{Fits, Whole, those-ext, those-mem, those-i, those-e, none-those, some-of_lem, empty-e, empty-none, whole-empty}
use Rattle.sets.proofs.RowLaws.{in-rows_of}
use Rattle.sets.proofs.MadeSets.{is-those, is_row, joined, less, where-true, where-false}
use Rattle.sets.proofs.Passing.{least-low}
use Rattle.engine.specs.declared.marking.State.{State}
use Rattle.engine.specs.Relations.{Relations, in_tables}
use Rattle.engine.specs.Steps.{enabled, after, accepting}
use Rattle.engine.proofs.Enabling.{done-parts}
use Rattle.finish.specs.Ways.{can_finish, begins}
use Rattle.finish.specs.Parts.{settles, settlers_of, in_all, live_at, owed_at, candidates_of}

-- ---- what a step settles

module _ (tables : List ℕ) (a : ℕ) where
  abbrev r : Relations
  r = in_tables tables

  abbrev lets_go : ℕ → Bool
  lets_go x = r.excludes a x and non (r.includes a x) or eqb x a

  module _ (gained due owed : Set) (d : Bool) (hg : gained ≡ row_at (table_at tables 2) a) (hd : due ≡ row_at (table_at tables 1) a)
      (ho : owed ≡ those (λ y. mem due y and mem gained y)) (he : d ≡ is_empty owed) where
    owes-none : d ≡ non (some_below width (λ y. r.responses a y and r.includes a y))
    owes-none =
        let e = joined ◌and◌ due gained owed (r.responses a) (r.includes a) (is_row due _ a hd) (is_row gained _ a hg) ho in
        he ∙ empty-none owed ∙ ap non (some-of_lem owed (λ y. r.responses a y and r.includes a y) (λ y t. t) e)

    pub settled-none : d ≡ false → no_set ≡ those (settles (in_tables tables) a)
    unfolding settles
    settled-none n = where-false d _ owes-none lets_go (n)

    pub settled-some : (shut lost one out : Set) → d ≡ true → shut ≡ row_at (table_at tables 3) a
        → lost ≡ those (λ x. mem shut x and non (mem gained x)) → one ≡ those (λ x. eqb x a) → out ≡ those (λ x. mem lost x or mem one x)
        → out ≡ those (settles (in_tables tables) a)
    unfolding settles
    settled-some shut lost one out n hs hl h1 h =
        let gone = less shut gained lost (r.excludes a) (r.includes a) (is_row shut _ a hs) (is_row gained _ a hg) hl in
        where-true d _ owes-none lets_go out
        (joined ◌or◌ lost one out (λ x. r.excludes a x and non (r.includes a x)) (λ x. eqb x a)
        (is-those lost _ gone) (is-those one _ h1) h)
        (n)

pub settlers-by : (events : Set) (q : Relations) (rows out : List ℕ) → rows ≡ rows_for events (settles q) → out ≡ rows_of (turned rows)
    → out ≡ settlers_of events q
settlers-by events q rows out h k = k ∙ ap (λ (x : List ℕ). rows_of (turned x)) h

-- ---- narrowed by one row after another

whole_of : (s : Set) (p : ℕ → Bool) → s ≡ those p → Whole s
whole_of s p e = those-ext (mem s) p (is-those s p e) ∙ sym e

module _ (rows : List ℕ) where
  pub narrowed-by : (live row out : Set) (k : ℕ) → row ≡ row_at rows k → out ≡ those (λ a. mem live a and mem row a)
      → out ≡ those (λ a. mem live a and in_row rows k a)
  unfolding in_row
  narrowed-by live row out k hr h = h ∙ ap (λ (s : Set). those (λ a. mem live a and mem s a)) hr

  -- what is left to do gives what was asked for
  pub record Narrowing (live owed out rest : Set) : Type 0 where
    pub whole : Whole out
    pub same : those (in_all rows out rest) ≡ those (in_all rows live owed)

  module _ (live owed : Set) where
    pub narrow_start : Fits live → Narrowing live owed live owed
    narrow_start f = record { whole = those-mem live f; same = refl }

    module _ (out rest : Set) (inv : Narrowing live owed out rest) (d : Bool) where
      pub narrow-none : d ≡ is_empty out → d ≡ true → out ≡ those (in_all rows live owed)
      narrow-none h t =
          let e = sym h ∙ t in
          sym (whole-empty out inv.whole e)
          ∙ none-those (in_all rows out rest) (λ a l. F→false _ (λ q. empty-e out (true→T e) a l (and_l _ _ q)))
          ∙ inv.same

      pub narrow-end : d ≡ is_empty rest → d ≡ true → out ≡ those (in_all rows live owed)
      narrow-end h n =
          let e = sym h ∙ n in
          sym inv.whole
          ∙ those-ext (mem out) (in_all rows out rest)
          (λ a l. T-ext (mem out a) (in_all rows out rest a)
          (λ t. and_i _ _ t (every-i width _ (λ x lx. imp-i _ _ (λ q. absurd (empty-e rest (true→T e) x lx q)))))
          (λ t. and_l _ _ t))
          ∙ inv.same

      module _ (out' rest' : Set) (hr : d ≡ is_empty rest) (hn : d ≡ false)
          (ho : out' ≡ those (λ a. mem out a and in_row rows (least_below width (mem rest)) a))
          (hm : rest' ≡ those (λ b. mem rest b and non (eqb b (least_below width (mem rest))))) where
        abbrev k : ℕ
        k = least_below width (mem rest)

        lk : k < width
        lk = least-low rest rest' d hr hn hm

        was : (a : ℕ) → a < width → T (in_all rows out' rest' a) → T (in_all rows out rest a)
        was a l t =
            let o : T (mem out a and in_row rows k a) = T-eq (is-those out' _ ho a l) (and_l _ _ t) in
            and_i _ _ (and_l _ _ o)
            (every-i width _ (λ x lx. imp-i _ _ (λ q. either (split (eqb x k))
            (λ e. subst (λ (n : ℕ). T (in_row rows n a)) (sym (eqb→eq x k e)) (and_r _ _ o))
            (λ g. imp-e _ _ (every-e width _ (and_r _ _ t) x lx) (T-eq (sym (is-those rest' _ hm x lx)) (and_i _ _ q (non-i _ g)))))))

        now : (a : ℕ) → a < width → T (in_all rows out rest a) → T (in_all rows out' rest' a)
        now a l t =
            and_i _ _
            (T-eq (sym (is-those out' _ ho a l))
            (and_i _ _ (and_l _ _ t) (imp-e _ _ (every-e width _ (and_r _ _ t) k lk) (least-is width (mem rest) lk))))
            (every-i width _ (λ x lx. imp-i _ _ (λ q.
            imp-e _ _ (every-e width _ (and_r _ _ t) x lx) (and_l _ _ (T-eq (is-those rest' _ hm x lx) q)))))

        pub narrow-turn : Narrowing live owed out' rest'
        narrow-turn =
            record {
              whole = whole_of out' _ ho;
              same = those-ext (in_all rows out' rest') (in_all rows out rest) (λ a l. T-ext _ _ (was a l) (now a l)) ∙ inv.same;
            }

-- the same turn, by an iterator over the members
module _ (rows : List ℕ) (live owed out rest : Set) (inv : Narrowing rows live owed out rest) where
  pub narrow-taken : (out' rest' : Set) (k : ℕ) → Takes rest k rest' → out' ≡ those (λ a. mem out a and in_row rows k a)
      → Narrowing rows live owed out' rest'
  narrow-taken out' rest' k t ho =
      narrow-turn rows live owed out rest inv _ out' rest' refl t.0 (ho ∙ ap (λ (n : ℕ). those (λ a. mem out a and in_row rows n a)) t.1) t.2

  pub narrow-whole : (all : Set) → is_empty rest ≡ true → owed ≡ all → out ≡ those (in_all rows live all)
  narrow-whole all n same = narrow-end rows live owed out rest inv _ refl n ∙ ap (λ (s : Set). those (in_all rows live s)) same

  pub narrow-cut : (all : Set) (d : Bool) → d ≡ is_empty out → d ≡ true → owed ≡ all → out ≡ those (in_all rows live all)
  narrow-cut all d h t same = narrow-none rows live owed out rest inv d h t ∙ ap (λ (s : Set). those (in_all rows live s)) same

-- ---- the steps to try

module _ (events : Set) (settlers : List ℕ) (m : State) (left : ℕ) where
  pub candidates-last : (live owed out : Set) → left ≡ 1 → live ≡ live_at events m → owed ≡ owed_at m → out ≡ those (in_all settlers live owed)
      → out ≡ candidates_of events settlers m left
  unfolding candidates_of
  candidates-last live owed out e hl hw h =
      h
      ∙ (λ j. those (in_all settlers (hl j) (hw j)))
      ∙ ap (λ (t : Bool). when t then those (in_all settlers (live_at events m) (owed_at m)) else live_at events m) (sym (eq-eqb left 1 e))

  pub candidates-all : (live : Set) → (left ≡ 1 → ⊥) → live ≡ live_at events m → live ≡ candidates_of events settlers m left
  unfolding candidates_of
  candidates-all live n h =
      h ∙ ap (λ (t : Bool). when t then those (in_all settlers (live_at events m) (owed_at m)) else live_at events m) (sym (ne_eqb left 1 n))

-- only an event that is included is enabled
pub enabled-live : (events : Set) (q : Relations) (m : State) (a : ℕ) → T (is_done (enabled events q m a))
    → T (mem events a) × T (mem m.included a)
enabled-live events q m a t = let h = T-eq (done-parts events q m a) t in (and_l _ _ (and_l _ _ h), and_r _ _ (and_l _ _ h))

accepting-none : (m : State) → T (accepting m) → (x : ℕ) → x < width → T (mem m.pending x) → T (mem m.included x) → ⊥
unfolding accepting
accepting-none m t x l p i = non-e _ t (some-i width _ x l (and_i _ _ p i))

-- a step after which the call is accepting settles all that was owed
module _ (q : Relations) (m : State) (a : ℕ) (t : T (accepting (after q m a))) where
  abbrev pends : ℕ → Bool
  pends x = mem m.pending x and non (eqb x a) or q.responses a x

  abbrev stays : ℕ → Bool
  stays x = mem m.included x and non (q.excludes a x) or q.includes a x

  not-both : (x : ℕ) → x < width → T (pends x) → T (stays x) → ⊥
  unfolding after
  not-both x l p i = accepting-none (after q m a) t x l (those-i pends x l p) (those-i stays x l i)

  pub settles-all : (x : ℕ) → x < width → T (mem m.pending x) → T (mem m.included x) → T (settles q a x)
  unfolding settles
  settles-all x l p i =
      and_i _ _
      (non-i _ (λ h. let y = some-e width _ h in not-both y.0 y.1 (or_r _ _ (and_l _ _ y.2)) (or_r _ _ (and_r _ _ y.2))))
      (either (split (eqb x a)) (λ e. or_r _ _ e) (λ g. or_l _ _ (and_i _ _ (lost g) (non-i _ (λ n. not-both x l (kept g) (or_r _ _ n))))))
    where
      kept : (T (eqb x a) → ⊥) → T (pends x)
      kept g = or_l _ _ (and_i _ _ p (non-i _ g))

      lost : (T (eqb x a) → ⊥) → T (q.excludes a x)
      lost g = either (split (q.excludes a x)) (λ y. y) (λ n. absurd (not-both x l (kept g) (or_l _ _ (and_i _ _ i (non-i _ n)))))

-- a way of so many steps begins with one of them
module _ (events : Set) (q : Relations) (m : State) (left : ℕ) (live : Set) (settlers : List ℕ) where
  in-settlers : (x b : ℕ) → x < width → b < width → settlers ≡ settlers_of events q → in_row settlers x b ≡ (mem events b and settles q b x)
  unfolding turned rows_for
  in-settlers x b lx lb e =
      ap (λ (rows : List ℕ). in_row rows x b) e
      ∙ in-rows_of (turned (rows_for events (settles q))) x b lx lb
      ∙ in-rows_of (λ c y. mem events c and settles q c y) b x lb lx

  pub tried-all : live ≡ candidates_of events settlers m left → settlers ≡ settlers_of events q
      → (b : ℕ) → b < width → T (begins events q (left - 1) m b) → T (mem live b)
  unfolding candidates_of can_finish
  tried-all h e b lb t = subst (λ (s : Set). T (mem s b)) (sym h) (by (eqb left 1) refl)
    where
      here : T (mem events b) × T (mem m.included b)
      here = enabled-live events q m b (and_l _ _ t)

      alive : T (mem (live_at events m) b)
      alive = those-i (λ a. mem events a and mem m.included a) b lb (and_i _ _ here.0 here.1)

      zero : eqb left 1 ≡ true → left - 1 ≡ 0
      zero o = let one : left ≡ 1 = eqb-true left 1 o in omega arith

      ends : eqb left 1 ≡ true → T (accepting (after q m b))
      ends o = subst (λ (n : ℕ). T (can_finish events q n (after q m b))) (zero o) (and_r _ _ t)

      by : (s : Bool) → eqb left 1 ≡ s → T (mem (when s then those (in_all settlers (live_at events m) (owed_at m)) else live_at events m) b)
      by false o = alive
      by true o =
          those-i (in_all settlers (live_at events m) (owed_at m)) b lb
          (and_i _ _ alive (every-i width _ (λ x lx. imp-i _ _ (λ w.
          let d = (those-e (λ a. mem m.pending a and mem m.included a) x w).1 in
          T-eq (sym (in-settlers x b lx lb e)) (and_i _ _ here.0 (settles-all q m b (ends o) x lx (and_l _ _ d) (and_r _ _ d)))))))

-- The search, turn by turn: the least that is open from a number on, the first way of so many steps, the fewest steps. Assumes nothing.
use mathlib.Core.Path.{◌≡◌, refl, sym, ap, subst, ◌∙◌}
use mathlib.Core.Bool.{Bool, true, false}
use mathlib.Core.List.{List, [], ◌∷◌}
use Prim.Native.Nat.{ℕ, suc, ◌+◌, ◌-◌, ◌≤◌, ◌<◌}
use native.Mathlib.Nat.{not-suc-le-zero, pos_of_ne-zero}
use native.Mathlib.Omega.{arith}
use borrow.Author.Count.{below_more}
use borrow.Author.Tests.{lt-ltb, le-ltb, ltb-true, ltb-false}
use lib.Dec.{T, eqb, ltb, eqb→eq}
use Rattle.std.specs.Prelude.{Option, None, Some}
use Rattle.std.specs.Bool.{then_some}
use Rattle.sets.specs.Tests.{◌and◌, non, when◌then◌else◌}
use Rattle.sets.specs.Members.{width, mem, those, least_below, is_empty, Takes}
use Rattle.sets.specs.Answers.{is_done}
use Rattle.sets.specs.declared.activity.Activity.{Activity}
use Rattle.sets.specs.declared.set.Set.{Set}
use Rattle.sets.specs.declared.answer.Answer.{Answer}
use Rattle.sets.specs.declared.answer.Answer.TheVariants.{Done, NoWayOut}
use Rattle.sets.proofs.Ways.{failed, held, taken, passed-by}
use Rattle.sets.proofs.Tests.{and_l, and_r, and_i, non-i, non-e, or-e, T-eq, T→true, true→T, F→false, false→F, split, either}
use Rattle.sets.proofs.Below.{some-i, some-e, least-ext, least-le, least-is, least-before, least-only}
use Rattle.sets.proofs.MadeSets.{is-those, less}
use Rattle.sets.proofs.Passing.{Part, passed, passed_none, passed-all, passed-turn, part-turn, least-low}
use Rattle.engine.specs.declared.marking.State.{State}
use Rattle.engine.specs.declared.marking.Marking.{Marking}
use Rattle.engine.specs.declared.graph.Graph.{Graph}
use Rattle.engine.specs.Relations.{Relations, relations_of}
use Rattle.engine.specs.Judged.{judged, judged_with, judged_beside}
use Rattle.engine.proofs.Acceptable.{beside-judged}
use Rattle.engine.specs.Steps.{enabled, after, accepting}
use Rattle.finish.specs.declared.search.Way.{Way}
use Rattle.finish.specs.declared.search.Finished.{Finished}
use Rattle.finish.specs.Ways.{most_steps, can_finish, begins, way_of, fewest, in_four, finished_by, shortest_of, finish_after, finish_of, finish_on}
use Rattle.finish.specs.Parts.{settlers_of, candidates_of, open_from, first_open, found_of, ahead_of}
use Rattle.finish.proofs.Settling.{tried-all}

-- ---- what a test with a value beside it tells

none-then : {A : Type 0} (t : Bool) (x : A) → None ≡ then_some t x → t ≡ false
none-then true x e = cc
none-then false x e = refl

some-then : {A : Type 0} (t : Bool) (x y : A) → Some y ≡ then_some t x → (t ≡ true) × (y ≡ x)
some-then true x y e = (refl, cc)
some-then false x y e = cc

-- ---- numbers asked in turn, none of which passed

abbrev pub NoneBelow : (ℕ → Bool) → ℕ → Type 0
NoneBelow p i = (b : ℕ) → b < i → p b ≡ false

module _ (p : ℕ → Bool) (i : ℕ) (none : NoneBelow p i) where
  pub none_more : p i ≡ false → NoneBelow p (i + 1)
  none_more e = below_more (λ b. p b ≡ false) i none e

  pub least-here : (w : ℕ) → i < w → T (p i) → i ≡ least_below w p
  least-here w l t = least-only w p i (omega arith) (λ k. t)
      (λ a k q. either (split (ltb a i)) (λ h. absurd (false→F (none a (ltb-true a i (T→true _ h))) q)) (λ h. ltb-false a i (F→false _ h)))

  pub least-nowhere : (w : ℕ) → w ≤ i → w ≡ least_below w p
  least-nowhere w l = least-only w p w (omega arith) (λ k. absurd (omega arith)) (λ a k q. absurd (false→F (none a (omega arith)) q))

pub none_first : (p : ℕ → Bool) → NoneBelow p 0
none_first p b l = absurd (not-suc-le-zero l)

-- ---- the least of some that is open

-- how far a search has come: at the one that it found, or at the end
abbrev pub at : Option Activity → ℕ
at None = width
at (Some a) = a.0

-- as an Option: there, or not
module _ (events : Set) (r : Relations) (m : State) (live : Set) (i : ℕ) where
  abbrev first : ℕ
  first = least_below width (open_from live events r m i)

  abbrev number : ℕ → Activity
  number k = record { 0 = k }

  first-is : (a : ℕ) → a < width → a ≡ first → Some (record { 0 = a }) ≡ first_open live events r m i
  first-is a l e =
      ap (λ (k : ℕ). Some (number k)) e ∙ ap (λ (t : Bool). then_some t (number first)) (sym (lt-ltb first width (omega arith)))

  first-none : width ≡ first → None ≡ first_open live events r m i
  first-none e = ap (λ (t : Bool). then_some t (number first)) (sym (le-ltb first width (omega arith)))

  -- the one that is found
  first-there : (a : Activity) → Some a ≡ first_open live events r m i → (a.0 < width) × (a.0 ≡ first)
  first-there a e =
      let t : (ltb first width ≡ true) × (a ≡ number first) = some-then _ _ _ e in
      let n : a.0 ≡ first = ap (λ (x : Activity). x.0) t.1 in
      (omega (arith, ltb-true first width t.0), n)

  first-past : None ≡ first_open live events r m i → width ≤ first
  first-past e = ltb-false first width (none-then _ _ e)

module _ (events : Set) (r : Relations) (m : State) (rest : Set) where
  abbrev opens : ℕ → Bool
  opens b = mem rest b and is_done (enabled events r m b)

  -- the rest are those that are live, from a number on
  open-live : (live low : Set) (i : ℕ) → low ≡ those (λ b. ltb b i) → rest ≡ those (λ b. mem live b and non (mem low b))
      → least_below width opens ≡ least_below width (open_from live events r m i)
  open-live live low i hl hr =
      let now = is-those rest _ (less live low rest (mem live) (λ b. ltb b i) (λ b l. refl) (is-those low _ hl) hr) in
      least-ext width opens (open_from live events r m i) (λ b l. ap (λ (x : Bool). x and is_done (enabled events r m b)) (now b l))

module _ (events : Set) (r : Relations) (m : State) (all : Set) where
  -- of those that were passed none is open
  pub record Asked (rest : Set) : Type 0 where
    pub part : Part all rest
    pub shut : (b : ℕ) → b < width → T (passed all rest b) → is_done (enabled events r m b) ≡ false

  pub open-start : Asked all
  open-start = record { part = λ a l t. t; shut = λ b l t. absurd (false→F (passed_none all b) t) }

  module _ (rest rest' : Set) (a : ℕ) (answer : Answer) (d : Bool) (inv : Asked rest) (t : Takes rest a rest')
      (ha : answer ≡ enabled events r m a) (hd : d ≡ is_done answer) where
    told : d ≡ is_done (enabled events r m a)
    told = hd ∙ ap is_done ha

    pub open-turn : d ≡ false → Asked rest'
    open-turn f =
        record {
          part = part-turn rest rest' _ refl t.0 t.2 all inv.part;
          shut = λ b l h.
              either (or-e (passed all rest b) (eqb b (least_below width (mem rest))) (T-eq (passed-turn rest rest' _ refl t.0 t.2 all inv.part b l) h))
              (λ y. inv.shut b l y)
              (λ e. ap (λ (n : ℕ). is_done (enabled events r m n)) (eqb→eq b _ e ∙ sym t.1) ∙ sym told ∙ f);
        }

    inside : a < width
    inside = let l = least-low rest rest' _ refl t.0 t.2 in omega (arith, t.1)

    here : T (mem rest a)
    here = subst (λ (n : ℕ). T (mem rest n)) (sym t.1) (least-is width (mem rest) (subst (λ (n : ℕ). n < width) t.1 inside))

    -- no lower one is open: it would have been passed
    lower : (b : ℕ) → b < a → T (opens events r m all b) → ⊥
    unfolding passed
    lower b l q =
        let gone : mem rest b ≡ false = least-before width (mem rest) b (subst (λ (n : ℕ). b < n) t.1 l) in
        let k = inside in
        false→F (inv.shut b (omega arith) (and_i _ _ (and_l _ _ q) (non-i _ (λ y. false→F gone y)))) (and_r _ _ q)

    pub open-found : d ≡ true → (live low : Set) (i : ℕ) → low ≡ those (λ b. ltb b i) → all ≡ those (λ b. mem live b and non (mem low b))
        → Some (record { 0 = a }) ≡ first_open live events r m i
    open-found y live low i hl hr =
        first-is events r m live i a inside
        (least-only width (opens events r m all) a (let k = inside in omega arith)
        (λ k. and_i _ _ (inv.part a inside here) (true→T (sym told ∙ y)))
        (λ b l q. either (split (ltb b a)) (λ h. absurd (lower b (ltb-true b a (T→true _ h)) q)) (λ h. ltb-false b a (F→false _ h)))
        ∙ open-live events r m all live low i hl hr)

  pub open-none : (rest : Set) → Asked rest → is_empty rest ≡ true → (live low : Set) (i : ℕ) → low ≡ those (λ b. ltb b i)
      → all ≡ those (λ b. mem live b and non (mem low b)) → None ≡ first_open live events r m i
  open-none rest inv n live low i hl hr =
      first-none events r m live i
      (least-only width (opens events r m all) width (omega arith) (λ k. absurd (omega arith))
      (λ b l q. absurd (false→F (inv.shut b l (T-eq (sym (passed-all all rest _ refl n b l)) (and_l _ _ q))) (and_r _ _ q)))
      ∙ open-live events r m all live low i hl hr)

module _ (events : Set) (r : Relations) (m : State) where
  -- it is open, and no lower than where the search began
  module _ (live : Set) (i a : ℕ) (e : a ≡ least_below width (open_from live events r m i)) (l : a < width) where
    is-open_lem : T (open_from live events r m i a)
    is-open_lem =
        subst (λ (k : ℕ). T (open_from live events r m i k)) (sym e)
        (least-is width (open_from live events r m i) (subst (λ (k : ℕ). k < width) e l))

    is-on : i ≤ a
    is-on = ltb-false a i (F→false _ (non-e _ (and_r _ _ (and_l _ _ is-open_lem))))

  reach : (live : Set) (i : ℕ) (o : Option Activity) → o ≡ first_open live events r m i → at o ≤ least_below width (open_from live events r m i)
  reach live i None e = first-past events r m live i e
  reach live i (Some a) e = let t = first-there events r m live i a e in omega (arith, t.1)

  -- ---- a way of so many steps

  -- the search stands at an activity that is open, or at the end: no way begins with a lower one
  pub record Tried (n : ℕ) (o : Option Activity) : Type 0 where
    pub lower : NoneBelow (begins events r n m) (at o)
    pub may : (a : Activity) → o ≡ Some a → (a.0 < width) × T (is_done (enabled events r m a.0))

  pub closer : (n : ℕ) (live : Set) (o o' : Option Activity) (a : Activity) → Tried n o → o ≡ Some a → o' ≡ first_open live events r m (a.0 + 1)
      → width - at o' < width - at o
  closer n live o o' a tried h e = rw h (by o' e)
    where
      inside : a.0 < width
      inside = (tried.may a h).0

      by : (x : Option Activity) → x ≡ first_open live events r m (a.0 + 1) → width - at x < width - a.0
      by None q = let k = inside in omega arith
      by (Some b) q =
          let k = inside in
          let t = first-there events r m live (a.0 + 1) b q in
          omega (arith, is-on live (a.0 + 1) b.0 t.1 t.0, t.0)

  -- from a number on, to the next that is open; no way begins with one that is not live
  on : (n i : ℕ) (o : Option Activity) (live : Set) → ((b : ℕ) → b < width → T (begins events r n m b) → T (mem live b))
      → NoneBelow (begins events r n m) i → o ≡ first_open live events r m i → Tried n o
  on n i o live all none e =
      record {
        lower = λ b l. F→false _ (λ t.
            let far = least-le width (open_from live events r m i) in
            let near = reach live i o e in
            let before : b < least_below width (open_from live events r m i) = omega arith in
            either (split (ltb b i)) (λ y. false→F (none b (ltb-true b i (T→true _ y))) t)
            (λ g. false→F (least-before width (open_from live events r m i) b before)
            (and_i _ _ (and_i _ _ (all b (omega arith) t) (non-i _ g)) (and_l _ _ t))));
        may = λ a h. let t = first-there events r m live i a (sym h ∙ e) in (t.0, and_r _ _ (is-open_lem live i a.0 t.1 t.0));
      }

  -- what a search one step on tells
  module _ (n a : ℕ) (m' : State) (hm : m' ≡ after r m a) where
    stuck : None ≡ found_of events r n m' → can_finish events r n (after r m a) ≡ false
    stuck e = none-then _ _ (e ∙ ap (found_of events r n) hm)

    ends : (w : Way) → Some w ≡ found_of events r n m' → (can_finish events r n (after r m a) ≡ true) × (w ≡ in_four (way_of events r n (after r m a)))
    ends w e = some-then _ _ _ (e ∙ ap (found_of events r n) hm)

  module _ (left : ℕ) (live : Set) (settlers : List ℕ) (hl : live ≡ candidates_of events settlers m left)
      (hs : settlers ≡ settlers_of events r) where
    pub way-start : (o : Option Activity) → o ≡ first_open live events r m 0 → Tried (left - 1) o
    way-start o e = on (left - 1) 0 o live (tried-all events r m left live settlers hl hs) (none_first (begins events r (left - 1) m)) e

    pub way-turn : (o o' : Option Activity) (a : Activity) (m' : State) → Tried (left - 1) o → o ≡ Some a → m' ≡ after r m a.0
        → None ≡ found_of events r (left - 1) m' → o' ≡ first_open live events r m (a.0 + 1) → Tried (left - 1) o'
    way-turn o o' a m' tried h hm f e =
        on (left - 1) (a.0 + 1) o' live (tried-all events r m left live settlers hl hs)
        (none_more (begins events r (left - 1) m) a.0 (subst (λ (x : Option Activity). NoneBelow (begins events r (left - 1) m) (at x)) h tried.lower)
        (F→false (begins events r (left - 1) m a.0) (λ t. false→F (stuck (left - 1) a.0 m' hm f) (and_r _ _ t)))) e

  module _ (n : ℕ) (o : Option Activity) (tried : Tried n o) where
    module _ (a : Activity) (h : o ≡ Some a) (m' : State) (w : Way) (hm : m' ≡ after r m a.0) (hr : Some w ≡ found_of events r n m') where
      begun : T (begins events r n m a.0)
      begun = and_i _ _ (tried.may a h).1 (true→T (ends n a.0 m' hm w hr).0)

      least : a.0 ≡ least_below width (begins events r n m)
      least =
          least-here (begins events r n m) a.0 (subst (λ (x : Option Activity). NoneBelow (begins events r n m) (at x)) h tried.lower) width
          (tried.may a h).0 begun

      can : can_finish events r (suc n) m ≡ true
      unfolding can_finish
      can = T→true _ (some-i width (begins events r n m) a.0 (tried.may a h).0 begun)

      -- the way from the marking after a, with a in front
      way-more : (out : Way) → out ≡ ahead_of a.0 w → Some out ≡ found_of events r (suc n) m
      unfolding way_of
      way-more out ho =
          ap Some (ho ∙ ap (ahead_of a.0) (ends n a.0 m' hm w hr).1 ∙ ap (λ (k : ℕ). in_four (k ∷ way_of events r n (after r m k))) least)
          ∙ ap (λ (t : Bool). then_some t (in_four (way_of events r (suc n) m))) (sym can)

    none-can : o ≡ None → can_finish events r (suc n) m ≡ false
    unfolding can_finish
    none-can h =
        F→false _ (λ t.
        let b = some-e width (begins events r n m) t in
        false→F (tried.lower b.0 (rw h b.1)) b.2)

    way-nowhere : o ≡ None → None ≡ found_of events r (suc n) m
    way-nowhere h = ap (λ (t : Bool). then_some t (in_four (way_of events r (suc n) m))) (sym (none-can h))

  -- with no step left
  pub way-here : (left : ℕ) (s : Bool) (out : Option Way) → left ≡ 0 → s ≡ accepting m → out ≡ then_some s (in_four [])
      → out ≡ found_of events r left m
  unfolding can_finish way_of
  way-here left s out e h ho = ho ∙ ap (λ (t : Bool). then_some t (in_four [])) h ∙ ap (λ (n : ℕ). found_of events r n m) (sym e)

  -- with some left
  module _ (left : ℕ) (h : left ≡ 0 → ⊥) (o : Option Activity) (tried : Tried (left - 1) o) where
    some_left : suc (left - 1) ≡ left
    some_left = let p : 0 < left = pos_of_ne-zero h in omega arith

    pub way-found : (a : Activity) (m' : State) (w out : Way) → o ≡ Some a → m' ≡ after r m a.0 → Some w ≡ found_of events r (left - 1) m'
        → out ≡ ahead_of a.0 w → Some out ≡ found_of events r left m
    way-found a m' w out q hm hr ho = way-more (left - 1) o tried a q m' w hm hr out ho ∙ ap (λ (n : ℕ). found_of events r n m) some_left

    pub way-ends : o ≡ None → None ≡ found_of events r left m
    way-ends q = way-nowhere (left - 1) o tried q ∙ ap (λ (n : ℕ). found_of events r n m) some_left

  -- ---- the fewest steps

  module _ (n : ℕ) (none : NoneBelow (λ k. can_finish events r k m) n) where
    pub shortest-more : None ≡ found_of events r n m → NoneBelow (λ k. can_finish events r k m) (n + 1)
    shortest-more e = none_more (λ k. can_finish events r k m) n none (none-then _ _ e)

    pub shortest-found : (w : Way) → n ≤ most_steps → Some w ≡ found_of events r n m → record { answer = Done; way = w } ≡ shortest_of events r m
    unfolding shortest_of fewest
    shortest-found w l e =
        let found = some-then _ _ _ e in
        let here : n ≡ fewest events r m =
        least-here (λ k. can_finish events r k m) n none (suc most_steps) (omega arith) (true→T found.0) in
        ap (λ (x : Way). record { answer = Done; way = x }) found.1
        ∙ ap (λ (k : ℕ). finished_by Done (way_of events r k m)) here
        ∙ ap (λ (t : Bool). when t then finished_by NoWayOut [] else finished_by Done (way_of events r (fewest events r m) m))
        (sym (le-ltb most_steps (fewest events r m) (omega arith)))

  pub shortest-none : (n : ℕ) → most_steps < n → NoneBelow (λ k. can_finish events r k m) n → finished_by NoWayOut [] ≡ shortest_of events r m
  unfolding shortest_of fewest
  shortest-none n l none =
      let far = least-nowhere (λ k. can_finish events r k m) n none (suc most_steps) (omega arith) in
      ap (λ (t : Bool). when t then finished_by NoWayOut [] else finished_by Done (way_of events r (fewest events r m) m))
      (sym (lt-ltb most_steps (fewest events r m) (omega arith)))

-- ---- the judgement first

module _ (x a : Answer) (r : Bool) (h : a ≡ x) (k : r ≡ is_done a) where
  pub finish-refused : (F : Finished) → r ≡ false → finished_by a [] ≡ when is_done x then F else finished_by x []
  finish-refused F t = ap (λ (b : Answer). finished_by b []) h ∙ passed-by (is_done x) F _ _ (failed (is_done x) r (k ∙ ap is_done h) t) refl

  pub finish-done : (F G : Finished) → r ≡ true → G ≡ F → G ≡ when is_done x then F else finished_by x []
  finish-done F G t e = taken (is_done x) F _ G (held (is_done x) r (k ∙ ap is_done h) t) e

module _ (m : Marking) (a : Answer) (f : Finished) where
  pub finish-judged : (g : Graph) → a ≡ judged_with g m → f ≡ finish_after a g.head.events (relations_of g) m.state → f ≡ finish_of g m
  unfolding finish_of
  finish-judged g h e = e ∙ ap (λ (x : Answer). finish_after x g.head.events (relations_of g) m.state) h

  pub finish-beside : (events : Set) (r : Relations) → a ≡ judged_beside events r m → f ≡ finish_after a events r m.state → f ≡ finish_on events r m
  unfolding finish_on
  finish-beside events r h e = e ∙ ap (λ (x : Answer). finish_after x events r m.state) h

-- on a graph that was judged before, the same with the marking judged alone
pub finish-on_lem : (g : Graph) → judged g ≡ Done → (m : Marking) → finish_of g m ≡ finish_on g.head.events (relations_of g) m
finish-on_lem g h m = finish-beside m (judged_with g m) (finish_of g m) g.head.events (relations_of g) (beside-judged g h m) (unfold finish_of in refl)

pub ruleset opening = (open-start, open-turn, open-found, open-none)

pub ruleset searching = (way-here, way-start, way-turn, way-found, way-ends, closer)

pub ruleset shortening = (none_first, shortest-more, shortest-found, shortest-none)

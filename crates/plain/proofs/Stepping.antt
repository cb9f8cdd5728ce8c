-- A step, pair by pair, as the set rules have it. Assumes nothing.
use mathlib.Core.Path.{◌≡◌, refl, sym, ap, ◌∙◌, subst}
use mathlib.Core.Bool.{Bool, true, false}
use mathlib.Core.List.{List, []}
use mathlib.Core.Logic.{◌⊎◌, inl, inr}
use Prim.Native.Nat.{ℕ, ◌+◌, ◌≤◌, ◌<◌}
use native.Mathlib.Numerals.{add-one}
use native.Mathlib.Omega.{arith}
use borrow.Author.Count.{below_more}
use borrow.Author.Tests.{eq-eqb, ne_eqb, lt-ltb, le-ltb, ltb-true, ltb-false}
use lib.Dec.{T, eqb, eqb→eq, ltb}
use lib.ListN.{length, get_or}
use Rattle.sets.specs.Tests.{◌and◌, ◌or◌, non, when◌then◌else◌}
use Rattle.sets.specs.Members.{width, mem, those, some_below, least_below}
use Rattle.sets.specs.declared.activity.Activity.{Activity}
use Rattle.sets.specs.declared.set.Set.{Set}
use Rattle.sets.specs.declared.answer.Answer.TheVariants.{Waiting}
use Rattle.sets.proofs.Tests.{and_l, and_r, and_i, T-ext, T→true, F→false, eqb_of, split}
use Rattle.sets.proofs.Ways.{taken, passed-by}
use Rattle.sets.proofs.Below.{some-e, least-only, some-least, some-last}
use Rattle.sets.proofs.Members.{Fits, is-those, those-ext, those-of}
use Rattle.engine.specs.declared.marking.State.{State}
use Rattle.engine.specs.declared.marking.Marking.{Marking}
use Rattle.engine.specs.Markings.{state_of}
use Rattle.engine.specs.Relations.{Relations}
use Rattle.engine.specs.Steps.{blocking, waits, blocker, enabled, after}
use Rattle.engine.specs.Enabled.{enabled_set, marked, is_true}
use Rattle.plain.specs.Pairs.{pair_of, source_of, target_of, some_in, is_among, in_pairs, blocks}
use Rattle.plain.specs.Graphs.{in_lists}
use Rattle.plain.proofs.PairLaws.{pair_is, stands}

-- ---- a rule that reads one relation reads it from its list alone

module _ (c r i x : List ℕ) (events : Set) where
  pub marked-alone : (s : State) (n : Marking) → n ≡ marked events (in_lists c [] [] []) s → n ≡ marked events (in_lists c r i x) s
  unfolding enabled_set enabled waits blocker
  marked-alone s n h = h

  pub true-alone : (m : Marking) (t : Bool) → t ≡ is_true events (in_lists c [] [] []) m → t ≡ is_true events (in_lists c r i x) m
  unfolding is_true enabled_set enabled waits blocker
  true-alone m t h = h

-- ---- waiting

-- what the code asks of the source that it took out of a pair
module _ (p a n : ℕ) (h : a ≡ source_of p) where
  pub source-below : a < n → true ≡ ltb (source_of p) n
  source-below l = sym (ap (λ (k : ℕ). ltb k n) (sym h) ∙ lt-ltb a n l)

  pub source-not-below : n ≤ a → false ≡ ltb (source_of p) n
  source-not-below l = sym (ap (λ (k : ℕ). ltb k n) (sym h) ∙ le-ltb a n l)

module _ (c : List ℕ) (m : State) (e : ℕ) where
  -- a blocking pair has a blocking source
  pub from-pair : (p : ℕ) → T (is_among c p) → T (blocks m e p) → T (blocking (in_lists c [] [] []) m e (source_of p))
  unfolding blocks
  from-pair p h t =
      let target = eqb→eq (target_of p) e (and_l _ _ (and_l _ _ t)) in
      let same : p ≡ pair_of (source_of p) e = omega arith in
      and_i _ _ (and_i _ _ (subst (λ (k : ℕ). T (is_among c k)) same h) (and_r _ _ (and_l _ _ t))) (and_r _ _ t)

  -- and a blocking source has its pair
  pub to-pair : (s : ℕ) → e < 256 → T (blocking (in_lists c [] [] []) m e s) → T (blocks m e (pair_of s e))
  unfolding blocks
  to-pair s l t =
      let source : s ≡ source_of (pair_of s e) = omega arith in
      let target : target_of (pair_of s e) ≡ e = omega arith in
      and_i _ _
      (and_i _ _ (eqb_of target) (subst (λ (k : ℕ). T (mem m.included k)) source (and_r _ _ (and_l _ _ t))))
      (subst (λ (k : ℕ). T (non (mem m.executed k))) source (and_r _ _ t))

  abbrev source_at : ℕ → ℕ
  source_at i = source_of (get_or c i 0)

  -- pair i is blocking, and its source is below n
  abbrev better : ℕ → ℕ → Bool
  better n i = blocks m e (get_or c i 0) and ltb (source_at i) n

  -- the walk has come to pair i: n is the least source of those that block so far, the width where none does
  pub record Smallest (n i : ℕ) : Type 0 where
    pub within : n ≤ width
    pub passes : n < width → T (blocking (in_lists c [] [] []) m e n)
    pub first : (j : ℕ) → j < i → T (blocks m e (get_or c j 0)) → n ≤ source_at j

  pub smallest-begin : Smallest width 0
  smallest-begin = record { within = omega arith; passes = λ l. absurd (omega arith); first = λ j l t. absurd (omega arith) }

  pub smallest-next : (n k i : ℕ) → i < length c
      → k ≡ (when better n i then source_at i else n)
      → Smallest n i → Smallest k (i + 1)
  smallest-next n k i l h inv = by (split (better n i))
    where
      by : T (better n i) ⊎ (T (better n i) → ⊥)
          → Smallest k (i + 1)
      by (inl t) =
          let is : k ≡ source_at i = h ∙ ap (λ (b : Bool). when b then source_at i else n) (T→true (better n i) t) in
          let less = ltb-true (source_at i) n (T→true _ (and_r _ _ t)) in
          let low = inv.within in
          record {
            within = omega arith;
            passes = λ _. subst (λ (a : ℕ). T (blocking (in_lists c [] [] []) m e a)) (sym is) (from-pair (get_or c i 0) (stands c i l) (and_l _ _ t));
            first =
                below_more (λ j. T (blocks m e (get_or c j 0)) → k ≤ source_at j) i
                (λ j g u. let old = inv.first j g u in omega arith) (λ u. omega arith);
          }
      by (inr f) =
          let is : k ≡ n = h ∙ ap (λ (b : Bool). when b then source_at i else n) (F→false (better n i) f) in
          subst (λ (a : ℕ). Smallest a (i + 1)) (sym is)
          (record {
            within = inv.within;
            passes = inv.passes;
            first =
                below_more (λ j. T (blocks m e (get_or c j 0)) → n ≤ source_at j) i inv.first
                (λ u. ltb-false (source_at i) n (F→false _ (λ t. f (and_i _ _ u t))));
          })

  pub smallest-end : (n i : ℕ) → e < 256 → length c ≤ i → Smallest n i → n ≡ least_below width (blocking (in_lists c [] [] []) m e)
  unfolding is_among some_in
  smallest-end n i byte l inv =
      least-only width (blocking (in_lists c [] [] []) m e) n inv.within inv.passes
      (λ s low t.
      let at = some-e (length c) (λ j. eqb (get_or c j 0) (pair_of s e)) (and_l _ _ (and_l _ _ t)) in
      let same = eqb→eq (get_or c at.0 0) (pair_of s e) at.2 in
      let least = inv.first at.0 (omega arith) (subst (λ (p : ℕ). T (blocks m e p)) (sym same) (to-pair s byte t)) in
      let source : s ≡ source_of (get_or c at.0 0) = omega arith in
      omega arith)

-- ---- 10 and its blocker, where the walk has given b

module _ (r : Relations) (m : State) (e : ℕ) (b : Activity) (h : b.0 ≡ least_below width (blocking r m e)) where
  pub waits-below : b.0 < width → true ≡ waits r m e
  unfolding waits
  waits-below l = sym (some-least width (blocking r m e) ∙ ap (λ (n : ℕ). ltb n width) (sym h) ∙ lt-ltb b.0 width l)

  pub waits-not : width ≤ b.0 → false ≡ waits r m e
  unfolding waits
  waits-not l = sym (some-least width (blocking r m e) ∙ ap (λ (n : ℕ). ltb n width) (sym h) ∙ le-ltb b.0 width l)

  blocker-is : Waiting b ≡ Waiting (blocker r m e)
  unfolding blocker
  blocker-is i = Waiting (record { 0 = h i })

pub waiting-for : (events : Set) (r : Relations) (m : State) (e : ℕ) (b : Activity) → false ≡ non (mem events e)
    → false ≡ non (mem m.included e) → true ≡ waits r m e → b.0 ≡ least_below width (blocking r m e) → Waiting b ≡ enabled events r m e
unfolding enabled
waiting-for events r m e b event included waiting least =
    passed-by _ _ _ _ event (passed-by _ _ _ _ included (taken _ _ _ _ waiting (blocker-is r m e b least)))

-- ---- a set that gains or loses members, one pair after another: both are an operation f that takes a test to what it was unless some pair
-- changes it

pub or-more : (a b c : Bool) → (a or b or c) ≡ (a or (b or c))
unfolding ◌or◌
or-more true b c = refl
or-more false b c = refl

-- a member that is lost
abbrev pub but : Bool → Bool → Bool
but a b = a and non b

pub but-none : (a : Bool) → but a false ≡ a
unfolding ◌and◌ non
but-none true = refl
but-none false = refl

pub but-more : (a b c : Bool) → but (but a b) c ≡ but a (b or c)
unfolding ◌and◌ ◌or◌ non
but-more true true c = refl
but-more true false c = refl
but-more false b c = refl

module _ (f : Bool → Bool → Bool) (none : (a : Bool) → f a false ≡ a) (more : (a b c : Bool) → f (f a b) c ≡ f a (b or c)) where
  module _ (s : Set) (p e : ℕ) where
    -- the pair of another source changes nothing
    pub one-not : (a : ℕ) → Fits s → a ≡ source_of p → (a ≡ e → ⊥) → s ≡ those (λ b. f (mem s b) (eqb p (pair_of e b)))
    unfolding ◌and◌
    one-not a fits h ne =
        is-those s (λ b. f (mem s b) (eqb p (pair_of e b))) fits
        (λ b l.
        sym (none (mem s b))
        ∙ ap (f (mem s b)) (sym (pair_is p e b (omega arith)
        ∙ ap (λ (t : Bool). t and eqb (target_of p) b) (ne_eqb (source_of p) e (λ q. ne (h ∙ q))))))

    -- the pair of e changes its target
    pub one-does : (a t : ℕ) (one u : Set) → a ≡ source_of p → a ≡ e → t ≡ target_of p → one ≡ those (λ b. eqb b t)
        → u ≡ those (λ b. f (mem s b) (mem one b)) → u ≡ those (λ b. f (mem s b) (eqb p (pair_of e b)))
    unfolding ◌and◌
    one-does a t one u h same k ho hu =
        hu
        ∙ those-of one (λ b. eqb b t) (λ b y. f (mem s b) y) ho
        ∙ those-ext (λ b. f (mem s b) (eqb b t)) (λ b. f (mem s b) (eqb p (pair_of e b)))
        (λ b l.
        ap (f (mem s b))
        (turned b
        ∙ sym (pair_is p e b (omega arith) ∙ ap (λ (y : Bool). y and eqb (target_of p) b) (eq-eqb (source_of p) e (sym h ∙ same)))))
      where
        turned : (b : ℕ) → eqb b t ≡ eqb (target_of p) b
        turned b = T-ext _ _ (λ y. eqb_of (sym k ∙ sym (eqb→eq b t y))) (λ y. eqb_of (sym (k ∙ eqb→eq (target_of p) b y)))

  -- by k, pair p changes b where q k p b
  module _ {K : Type 0} (q : K → ℕ → ℕ → Bool) (s : Set) (pairs : List ℕ) (k : K) where
    -- after the first i pairs
    abbrev pub so_far : ℕ → Set
    so_far i = those (λ b. f (mem s b) (some_below i (λ j. q k (get_or pairs j 0) b)))

    pub targets-begin : Fits s → s ≡ so_far 0
    unfolding some_below
    targets-begin fits = is-those s (λ b. f (mem s b) false) fits (λ b l. sym (none (mem s b)))

    pub targets_next : (i : ℕ) (kept kept' : Set) → kept ≡ so_far i → kept' ≡ those (λ b. f (mem kept b) (q k (get_or pairs i 0) b))
        → kept' ≡ so_far (i + 1)
    targets_next i kept kept' h e =
        e
        ∙ those-of kept (λ b. f (mem s b) (some_below i (λ j. q k (get_or pairs j 0) b))) (λ b y. f y (q k (get_or pairs i 0) b)) h
        ∙ those-ext _ _
        (λ b l.
        more (mem s b) (some_below i (λ j. q k (get_or pairs j 0) b)) (q k (get_or pairs i 0) b)
        ∙ ap (f (mem s b)) (sym (some-last i (λ j. q k (get_or pairs j 0) b))))
        ∙ ap so_far (sym (add-one i))

    pub targets-end : (i : ℕ) (kept : Set) → length pairs ≤ i → i ≤ length pairs → kept ≡ so_far i
        → kept ≡ those (λ b. f (mem s b) (some_in pairs (λ p. q k p b)))
    unfolding some_in
    targets-end i kept l g h = let same : i ≡ length pairs = omega arith in h ∙ ap so_far same

-- the pair of e and b changes b
abbrev pub leads : ℕ → ℕ → ℕ → Bool
leads e p b = eqb p (pair_of e b)

-- ---- the state after a step

module _ (c r i x : List ℕ) (m : State) (e : ℕ) where
  pub next-by : (one ex done p left n : Set) (m' : State) → one ≡ those (λ b. eqb b e) → ex
      ≡ those (λ a. mem m.executed a or mem one a)
      → done ≡ those (λ a. mem m.pending a and non (mem one a)) → p ≡ those (λ a. mem done a or in_pairs r e a)
      → left ≡ those (λ a. mem m.included a and non (in_pairs x e a)) → n ≡ those (λ a. mem left a or in_pairs i e a)
      → m' ≡ state_of ex p n → m' ≡ after (in_lists c r i x) m e
  unfolding after
  next-by one ex done p left n m' ho hex hd hp hl hn hm =
      hm
      ∙ (λ j.
      state_of
      ((hex ∙ those-of one (λ b. eqb b e) (λ a t. mem m.executed a or t) ho) j)
      ((hp
      ∙ those-of done (λ a. mem m.pending a and non (mem one a)) (λ a t. t or in_pairs r e a) hd
      ∙ those-of one (λ b. eqb b e) (λ a t. mem m.pending a and non t or in_pairs r e a) ho) j)
      ((hn ∙ those-of left (λ a. mem m.included a and non (in_pairs x e a)) (λ a t. t or in_pairs i e a) hl) j))

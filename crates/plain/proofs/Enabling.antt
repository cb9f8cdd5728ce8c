-- The set of enabled activities, from one walk through the conditions. Assumes nothing.
use mathlib.Core.Path.{◌≡◌, refl, sym, ap, ap₂, subst, ◌∙◌}
use mathlib.Core.Bool.{Bool, ◌&&◌}
use mathlib.Core.List.{List, []}
use Prim.Native.Nat.{ℕ, ◌≤◌, ◌<◌}
use native.Mathlib.Omega.{arith}
use lib.Dec.{T, eqb, eqb→eq}
use lib.ListN.{length, get_or}
use Rattle.sets.specs.Tests.{◌and◌, ◌or◌, non}
use Rattle.sets.specs.Members.{width, mem, those, no_set, within}
use Rattle.sets.specs.Answers.{is_done}
use Rattle.sets.specs.declared.set.Set.{Set}
use Rattle.sets.proofs.Tests.{and_l, and_r, and_i, or-false, T-ext, eqb_of}
use Rattle.sets.proofs.Below.{some-i, some-e}
use Rattle.sets.proofs.Members.{Fits, those-ext, those-of, those-mem, whole-low, mem-none, within-e, within-i}
use Rattle.sets.proofs.MadeSets.{is-those, less}
use Rattle.engine.specs.declared.marking.State.{State}
use Rattle.engine.specs.declared.marking.Marking.{Marking}
use Rattle.engine.specs.Steps.{blocking, waits, enabled}
use Rattle.engine.specs.Enabled.{enabled_set, is_true}
use Rattle.engine.proofs.Enabling.{done-parts, true-in, true_of, asked_true}
use Rattle.plain.specs.Pairs.{pair_of, source_of, target_of, some_in, is_among, blocks}
use Rattle.plain.specs.Graphs.{in_lists}
use Rattle.plain.proofs.PairLaws.{and-is, stands}
use Rattle.plain.proofs.Stepping.{true-alone, or-more, so_far, targets-end, from-pair, to-pair}

-- the code's `==` of two sets: each is within the other
module _ (s t : Set) (fs : Fits s) (ft : Fits t) where
  same-set : T (within s t) → T (within t s) → s ≡ t
  same-set x y =
      sym (those-mem s fs)
      ∙ those-ext (mem s) (mem t) (λ a l. T-ext _ _ (within-e s t x a l) (within-e t s y a l))
      ∙ those-mem t ft

  equal-is : (r : Bool) → r ≡ (eqb s.low t.low && eqb s.high t.high) → r ≡ (within s t and within t s)
  equal-is r h =
      h
      ∙ and-is (eqb s.low t.low) (eqb s.high t.high)
      ∙ T-ext _ _
      (λ e.
      let low = eqb→eq s.low t.low (and_l _ _ e) in
      let high = eqb→eq s.high t.high (and_r _ _ e) in
      let same : s ≡ t = λ j. record { low = low j; high = high j } in
      let all : T (within s s) = within-i s s (λ a l m. m) in
      and_i _ _ (subst (λ (u : Set). T (within s u)) same all) (subst (λ (u : Set). T (within u s)) same all))
      (λ e.
      let same = same-set (and_l _ _ e) (and_r _ _ e) in
      and_i _ _ (eqb_of (ap (λ (u : Set). u.low) same)) (eqb_of (ap (λ (u : Set). u.high) same)))

-- so a marking is true whose set equals the one worked out
pub equal-true : (c r i x : List ℕ) (events : Set) (m : Marking) (all : Set) (t : Bool) → Fits m.enabled → Fits all
    → t ≡ (eqb m.enabled.low all.low && eqb m.enabled.high all.high) → all ≡ enabled_set events (in_lists c [] [] []) m.state
    → t ≡ is_true events (in_lists c r i x) m
unfolding is_true
equal-true c r i x events m all t fm fa ht ha =
    true-alone c r i x events m t
    (equal-is m.enabled all fm fa t ht ∙ ap₂ ◌and◌ (true-in m.enabled all _ _ ha refl) (true_of m.enabled all _ _ ha refl))

-- the same where each is asked by itself
pub asked-true : (c r i x : List ℕ) (events : Set) (m : Marking) (all : Set) (a b t : Bool) → a ≡ within m.enabled all
    → b ≡ within all m.enabled → t ≡ (a && b) → all ≡ enabled_set events (in_lists c [] [] []) m.state
    → t ≡ is_true events (in_lists c r i x) m
unfolding is_true
asked-true c r i x events m all a b t ha hb ht h = true-alone c r i x events m t (asked_true m.enabled all _ a b t h ha hb ht)

-- pair p keeps b waiting
abbrev pub keeps : State → ℕ → ℕ → Bool
keeps s p b = blocks s b p

-- a pair that is blocking keeps its target waiting, and no other
module _ (s : State) (p t : ℕ) (h : t ≡ target_of p) where
  target-alone : (b : ℕ) → (blocks s t p and eqb b t) ≡ blocks s b p
  unfolding blocks
  target-alone b =
      T-ext (blocks s t p and eqb b t) (blocks s b p)
      (λ y. subst (λ (k : ℕ). T (blocks s k p)) (sym (eqb→eq b t (and_r _ _ y))) (and_l _ _ y))
      (λ y.
      let same : b ≡ t = sym (h ∙ eqb→eq (target_of p) b (and_l _ _ (and_l _ _ y))) in
      and_i _ _ (subst (λ (k : ℕ). T (blocks s k p)) same y) (eqb_of same))

  pub with-target-by : (out one u : Set) (y : Bool) → y ≡ blocks s t p → one ≡ those (λ b. y and eqb b t)
      → u ≡ those (λ b. mem out b or mem one b) → u ≡ those (λ b. mem out b or blocks s b p)
  with-target-by out one u y hy ho hu =
      hu
      ∙ those-of one (λ b. y and eqb b t) (λ b z. mem out b or z) ho
      ∙ those-ext (λ b. mem out b or y and eqb b t) (λ b. mem out b or blocks s b p)
      (λ b l. ap (λ (z : Bool). mem out b or z) (ap (λ (z : Bool). z and eqb b t) hy ∙ target-alone b))

-- the walk ends with those that some condition keeps waiting
pub waiting-end : (c : List ℕ) (s : State) (i : ℕ) (out : Set) → length c ≤ i → i ≤ length c
    → out ≡ so_far ◌or◌ or-false or-more keeps no_set c s i
    → out ≡ those (λ b. some_in c (blocks s b))
unfolding ◌or◌
waiting-end c s i out l g h =
    targets-end ◌or◌ or-false or-more keeps no_set c s i out l g h
    ∙ those-ext (λ b. mem no_set b or some_in c (blocks s b)) (λ b. some_in c (blocks s b))
    (λ b k. ap (λ (t : Bool). t or some_in c (blocks s b)) (mem-none b))

module _ (c : List ℕ) (s : State) (f : Fits s.included) where
  -- some condition keeps e waiting just where a source does
  waits-pairs : (e : ℕ) → e < 256 → some_in c (blocks s e) ≡ waits (in_lists c [] [] []) s e
  unfolding waits some_in is_among
  waits-pairs e l =
      T-ext _ _
      (λ t.
      let at = some-e (length c) (λ j. blocks s e (get_or c j 0)) t in
      let b = from-pair c s e (get_or c at.0 0) (stands c at.0 at.1) at.2 in
      some-i width (blocking (in_lists c [] [] []) s e) (source_of (get_or c at.0 0))
      (whole-low s.included (those-mem s.included f) (source_of (get_or c at.0 0)) (and_r _ _ (and_l _ _ b))) b)
      (λ t.
      let source = some-e width (blocking (in_lists c [] [] []) s e) t in
      let at = some-e (length c) (λ j. eqb (get_or c j 0) (pair_of source.0 e)) (and_l _ _ (and_l _ _ source.2)) in
      some-i (length c) (λ j. blocks s e (get_or c j 0)) at.0 at.1
      (subst (λ (p : ℕ). T (blocks s e p)) (sym (eqb→eq (get_or c at.0 0) (pair_of source.0 e) at.2))
      (to-pair c s e source.0 l source.2)))

  pub enabled-by : (events live wait out : Set) → live ≡ those (λ a. mem events a and mem s.included a)
      → wait ≡ those (λ b. some_in c (blocks s b)) → out ≡ those (λ a. mem live a and non (mem wait a))
      → out ≡ enabled_set events (in_lists c [] [] []) s
  unfolding enabled_set
  enabled-by events live wait out hl hw ho =
      less live wait out _ _ (is-those live _ hl) (is-those wait _ hw) ho
      ∙ those-ext (λ a. mem events a and mem s.included a and non (some_in c (blocks s a)))
      (λ a. is_done (enabled events (in_lists c [] [] []) s a))
      (λ a l.
      ap (λ (t : Bool). mem events a and mem s.included a and non t) (waits-pairs a (omega arith))
      ∙ sym (done-parts events (in_lists c [] [] []) s a))

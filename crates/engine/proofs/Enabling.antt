-- The set of enabled activities, gathered from the events that are included; and a marking that is true has that very set. Assumes nothing.
use mathlib.Core.Path.{◌≡◌, refl, sym, ap, ap₂, ◌∙◌, subst}
use mathlib.Core.Bool.{Bool, true, false, ◌&&◌}
use Prim.Native.Nat.{ℕ, ◌<◌}
use borrow.Author.Tests.{lt-ltb}
use lib.Dec.{T, eqb, ltb}
use Rattle.sets.specs.Tests.{◌and◌, ◌or◌, non, when◌then◌else◌}
use Rattle.sets.specs.Members.{width, word, mem, those, end_below, is_empty, within}
use Rattle.sets.specs.Answers.{is_done}
use Rattle.sets.specs.declared.set.Set.{Set}
use Rattle.sets.specs.declared.answer.Answer.TheVariants.{Done, NoEvent, NotIncluded, Waiting}
use Rattle.sets.proofs.Tests.{T-ext, T-eq, and_l, and_r, and_i, and_is, T→true, true→T, true-and}
use Rattle.sets.proofs.Below.{some-ext, end-past}
use Rattle.sets.proofs.Members.{Fits, Whole, equal-within, those-ext, those-of, within-i, within-e, mem-those}
use Rattle.sets.proofs.MadeSets.{joined, is-those}
use Rattle.engine.specs.declared.marking.State.{State}
use Rattle.engine.specs.declared.marking.Marking.{Marking}
use Rattle.engine.specs.Markings.{state_of, marking_of}
use Rattle.engine.specs.Few.{few_of}
use Rattle.engine.specs.Relations.{Relations}
use Rattle.engine.specs.Steps.{blocking, waits, blocker, enabled}
use Rattle.engine.proofs.Stepping.{none_pass}
use Rattle.engine.specs.Enabled.{enabled_set, marked, is_true}

module _ (events : Set) (r : Relations) (s : State) where
  -- what the step rules ask: an event, included, that waits for nothing
  pub done-parts : (a : ℕ) → is_done (enabled events r s a) ≡ (mem events a and mem s.included a and non (waits r s a))
  unfolding enabled ◌and◌ non
  done-parts a = by (mem events a) (mem s.included a) (waits r s a)
    where
      by : (e i w : Bool) → is_done (when non e then NoEvent else when non i then NotIncluded else when w then Waiting (blocker r s a) else Done)
          ≡ (e and i and non w)
      by false i w = refl
      by true false w = refl
      by true true false = refl
      by true true true = refl

  -- so all of them are had: the events that are included, of which those that wait are left out
  gathered : (live rest out : Set) → live ≡ those (λ a. mem events a and mem s.included a) → rest ≡ those (λ a. non (waits r s a))
      → out ≡ those (λ a. mem live a and mem rest a) → out ≡ enabled_set events r s
  unfolding enabled_set
  gathered live rest out hl hp ho =
      joined ◌and◌ live rest out (λ a. mem events a and mem s.included a) (λ a. non (waits r s a))
      (is-those live (λ a. mem events a and mem s.included a) hl) (is-those rest (λ a. non (waits r s a)) hp) ho
      ∙ those-ext (λ a. mem events a and mem s.included a and non (waits r s a)) (λ a. is_done (enabled events r s a)) (λ a la. sym (done-parts a))

  -- the code asks those below the width
  pub gathered-all : (live rest out : Set) → live ≡ those (λ a. mem events a and mem s.included a)
      → rest ≡ those (λ a. ltb a width and non (waits r s a)) → out ≡ those (λ a. mem live a and mem rest a) → out ≡ enabled_set events r s
  gathered-all live rest out hl hp ho =
      gathered live rest out hl
      (hp ∙ those-ext _ (λ a. non (waits r s a)) (λ a l. ap (λ (t : Bool). t and non (waits r s a)) (lt-ltb a width l) ∙ true-and _)) ho

  -- and where only low ones are included, no other, and none past the last of them
  module _ (low inc live part : Set) (few : State) (t : Bool) (end : ℕ) (hl : low ≡ those (λ a. ltb a word))
      (hv : live ≡ those (λ a. mem events a and mem s.included a)) (ht : t ≡ within s.included low) (yes : t ≡ true)
      (hi : inc ≡ few_of s.included) (hf : few ≡ state_of s.executed s.pending inc) (hp : part ≡ few_of live) (he : end ≡ end_below width (mem part)) where
    is-low : (a : ℕ) → a < width → T (mem s.included a) → ltb a word ≡ true
    is-low a l h = sym (is-those low (λ b. ltb b word) hl a l) ∙ T→true _ (within-e s.included low (true→T (sym ht ∙ yes)) a l h)

    same : (a : ℕ) → a < width → mem few.included a ≡ mem s.included a
    same a l =
        ap (λ (u : State). mem u.included a) hf
        ∙ is-those inc (λ b. mem s.included b and ltb b word) hi a l
        ∙ T-ext _ _ (λ h. and_l _ _ h) (λ h. and_i _ _ h (true→T (is-low a l h)))

    waits-same : (a : ℕ) → waits r few a ≡ waits r s a
    unfolding waits
    waits-same a =
        some-ext width (blocking r few a) (blocking r s a)
        (λ b l. ap₂ (λ (x y : Bool). r.conditions b a and x and non y) (same b l) (ap (λ (u : State). mem u.executed b) hf))

    below_end : (a : ℕ) → a < width → T (mem events a and mem s.included a) → T (ltb a end)
    below_end a l h =
        let live_in : T (mem live a) = T-eq (sym (is-those live (λ b. mem events b and mem s.included b) hv a l)) h in
        let part_in : T (mem part a) =
        T-eq (sym (is-those part (λ b. mem live b and ltb b word) hp a l)) (and_i _ _ live_in (true→T (is-low a l (and_r _ _ h)))) in
        true→T (lt-ltb a end (subst (λ (n : ℕ). a < n) (sym he) (end-past width (mem part) a l part_in)))

    pub gathered-low : (rest out : Set) → rest ≡ those (λ a. ltb a end and non (waits r few a)) → out ≡ those (λ a. mem live a and mem rest a)
        → out ≡ enabled_set events r s
    unfolding enabled_set
    gathered-low rest out hr ho =
        joined ◌and◌ live rest out (λ a. mem events a and mem s.included a) (λ a. ltb a end and non (waits r few a))
        (is-those live (λ a. mem events a and mem s.included a) hv) (is-those rest (λ a. ltb a end and non (waits r few a)) hr) ho
        ∙ those-ext _ (λ a. is_done (enabled events r s a))
        (λ a l.
        ap (λ (x : Bool). mem events a and mem s.included a and (ltb a end and non x)) (waits-same a)
        ∙ T-ext _ _ (λ h. and_i _ _ (and_l _ _ h) (and_r _ _ (and_r _ _ h)))
        (λ h. and_i _ _ (and_l _ _ h) (and_i _ _ (below_end a l (and_l _ _ h)) (and_r _ _ h)))
        ∙ sym (done-parts a))

-- what the code makes: the set with one more where nothing blocks it, and the marking of a state
pub joined_free : (r : Relations) (s : State) (out left one u : Set) (e : ℕ) (t : Bool) → left ≡ those (blocking r s e) → t ≡ is_empty left
    → one ≡ those (λ b. t and eqb b e) → u ≡ those (λ b. mem out b or mem one b) → u ≡ those (λ b. mem out b or non (waits r s e) and eqb b e)
unfolding waits
joined_free r s out left one u e t hl ht ho hu =
    hu ∙ those-of one (λ b. t and eqb b e) (λ b y. mem out b or y) ho
    ∙ ap (λ (y : Bool). those (λ b. mem out b or y and eqb b e)) (ht ∙ none_pass left (blocking r s e) hl)

pub marked-by_lem : (events : Set) (r : Relations) (s : State) (u : Set) → u ≡ enabled_set events r s → marking_of s u ≡ marked events r s
marked-by_lem events r s u h j = marking_of s (h j)

pub true-in : (e all x : Set) (t : Bool) → all ≡ x → t ≡ within e all → t ≡ within e x
true-in e all x t h k = k ∙ ap (within e) h

pub true_of : (e all x : Set) (t : Bool) → all ≡ x → t ≡ within all e → t ≡ within x e
true_of e all x t h k = k ∙ ap (λ (u : Set). within u e) h

pub same_true : (e all x : Set) (t : Bool) → Fits e → Fits all → all ≡ x → t ≡ (eqb e.low all.low && eqb e.high all.high) → t ≡ (within e x and within x e)
same_true e all x t fe fa h k = k ∙ equal-within e all fe fa ∙ ap₂ ◌and◌ (true-in e all x _ h refl) (true_of e all x _ h refl)

-- the same where each is asked by itself
pub asked_true : (e all x : Set) (a b t : Bool) → all ≡ x → a ≡ within e all → b ≡ within all e → t ≡ (a && b)
    → t ≡ (within e x and within x e)
asked_true e all x a b t h ha hb k = k ∙ and_is a b ∙ ap₂ ◌and◌ (true-in e all x a h ha) (true_of e all x b h hb)

-- ---- a true marking

module _ (events : Set) (r : Relations) where
  -- what is worked out is true
  pub marked-true : (s : State) → T (is_true events r (marked events r s))
  unfolding is_true
  marked-true s = let w = within-i (enabled_set events r s) (enabled_set events r s) (λ a l t. t) in and_i _ _ w w

  module _ (m : Marking) (t : T (is_true events r m)) where
    -- the members of its set are those to which the step rules say yes
    pub true-says : (a : ℕ) → a < width → mem m.enabled a ≡ is_done (enabled events r m.state a)
    unfolding is_true enabled_set
    true-says a l =
        T-ext (mem m.enabled a) (mem (enabled_set events r m.state) a) (λ x. within-e _ _ (and_l _ _ t) a l x)
        (λ x. within-e _ _ (and_r _ _ t) a l x)
        ∙ mem-those (λ e. is_done (enabled events r m.state e)) a l

    -- so what is true was worked out, or could have been
    pub true-marked : Whole m.enabled → m ≡ marked events r m.state
    unfolding enabled_set
    true-marked w j =
        marking_of m.state ((sym w ∙ those-ext (mem m.enabled) (λ e. is_done (enabled events r m.state e)) true-says) j)

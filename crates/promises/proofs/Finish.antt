-- 02, 8/12: how a call can still finish. `FinishGives g m f` says that the function `finish` may give f for a graph and a marking, by its
-- own contract. A finishing sequence, the way out and that there is none are in finish/specs/Sequences, in 02's words. Assumes nothing.
--
-- The events are asked to be the set of their members (`Whole`), as every set of the code is.
use mathlib.Core.Path.{◌≡◌, refl, sym, ap, subst, ◌∙◌}
use mathlib.Core.Bool.{Bool, true, false}
use mathlib.Core.Logic.{◌⊎◌, inl, inr}
use mathlib.Core.List.{List, []}
use Prim.Native.Nat.{ℕ, suc, ◌≤◌, ◌<◌}
use borrow.Author.Tests.{ltb-true, ltb-false}
use lib.Dec.{T, eqb, ltb}
use Rattle.sets.specs.Tests.{when◌then◌else◌}
use Rattle.sets.specs.Answers.{number_of, is_done}
use Rattle.sets.specs.declared.answer.Answer.{Answer}
use Rattle.sets.specs.declared.answer.Answer.TheVariants.{Done, NoWayOut}
use Rattle.sets.specs.Members.{least_below, or_next}
use Rattle.sets.specs.declared.set.Set.{Set}
use Rattle.sets.proofs.Tests.{T→true, true→T, F→false, false→F, split, either}
use Rattle.sets.proofs.Asking.{done-is}
use Rattle.sets.proofs.Members.{Whole}
use Rattle.engine.specs.Relations.{Relations, relations_of}
use Rattle.engine.specs.Steps.{accepting}
use Rattle.engine.specs.Judged.{judged_with}
use Rattle.engine.proofs.Judging.{found-one}
use Rattle.engine.specs.declared.marking.State.{State}
use Rattle.engine.specs.declared.marking.Marking.{Marking}
use Rattle.engine.specs.declared.graph.Graph.{Graph}
use Rattle.finish.specs.Ways.{most_steps, can_finish, way_of, fewest, in_four, finished_by, shortest_of, finish_of}
use Rattle.finish.specs.Sequences.{WayOut, NoWay}
use Rattle.finish.specs.declared.search.Finished.{Finished}
use Rattle.finish.proofs.Sequences.{fewest-way, fewest-none}
use Rattle.finish.proofs.search.finish.Reads as finish
use Rattle.promises.proofs.Contracts.{Gives}

abbrev pub FinishGives : Graph → Marking → Finished → Type 0
FinishGives g m f = Gives finish.Post (λ κ. (g, (m, tt))) (λ κ. f)

-- ---- a judgement never gives 17

abbrev Not17 : Answer → Type 0
Not17 a = T (eqb (number_of a) 17) → ⊥

judged-17 : (g : Graph) (m : Marking) → Not17 (judged_with g m)
unfolding judged_with
judged-17 g m = found-one _ _ _ Not17 (λ h. h) (λ h. h) (λ h. h) (λ h. h)

is-17 : (a : Answer) → number_of a ≡ 17 → T (eqb (number_of a) 17)
is-17 a e = true→T (ap (λ (n : ℕ). eqb n 17) e)

module _ (g : Graph) (m : Marking) (f : Finished) (c : FinishGives g m f) where
  abbrev events : Set
  events = g.head.events

  abbrev r : Relations
  r = relations_of g

  abbrev s : State
  s = m.state

  by-judgement : (t : Bool) → is_done (judged_with g m) ≡ t → f ≡ (when t then shortest_of events r s else finished_by (judged_with g m) [])
  unfolding finish_of
  by-judgement t e = c.2 ∙ ap (λ (b : Bool). when b then shortest_of events r s else finished_by (judged_with g m) []) e

  -- ================ 1. "3, 5 AND 16 COME FIRST", AND RETURN FOUR 255S

  pub judged-first : is_done (judged_with g m) ≡ false → f ≡ finished_by (judged_with g m) []
  judged-first e = by-judgement false e

  -- ---- of a graph and a marking that are judged done

  module _ (ok : judged_with g m ≡ Done) where
    searched : f ≡ shortest_of events r s
    searched = by-judgement true (ap is_done ok)

    found-or-none : ((fewest events r s ≤ most_steps) × (f ≡ finished_by Done (way_of events r (fewest events r s) s)))
        ⊎ ((most_steps < fewest events r s) × (f ≡ finished_by NoWayOut []))
    unfolding shortest_of
    found-or-none = by (ltb most_steps (fewest events r s)) refl searched
      where
        by : (t : Bool) → ltb most_steps (fewest events r s) ≡ t
            → f ≡ (when t then finished_by NoWayOut [] else finished_by Done (way_of events r (fewest events r s) s))
            → ((fewest events r s ≤ most_steps) × (f ≡ finished_by Done (way_of events r (fewest events r s) s)))
            ⊎ ((most_steps < fewest events r s) × (f ≡ finished_by NoWayOut []))
        by true e h = inr (ltb-true most_steps (fewest events r s) e, h)
        by false e h = inl (ltb-false most_steps (fewest events r s) e, h)

    -- "an accepting marking gives the empty sequence"
    pub accepting-empty : accepting s ≡ true → f ≡ finished_by Done []
    unfolding shortest_of way_of fewest least_below can_finish
    accepting-empty e =
        searched
        ∙ ap (λ (n : ℕ). when ltb most_steps n then finished_by NoWayOut [] else finished_by Done (way_of events r n s))
        (ap (λ (t : Bool). or_next t (least_below most_steps (λ n. can_finish events r (suc n) s))) e)

    module _ (w : Whole events) where
      -- ================ 2. WHAT IS GIVEN IS A WAY OUT

      pub way_out : f.answer ≡ Done → (σ : List ℕ) × (f.way ≡ in_four σ) × WayOut events r s σ
      way_out d =
          either found-or-none
          (λ h. (way_of events r (fewest events r s) s, ap (λ (x : Finished). x.way) h.1, fewest-way events r w s h.0))
          (λ h. absurd (false→F (ap is_done (sym d ∙ ap (λ (x : Finished). x.answer) h.1)) tt))

      -- ================ 3. "17, EXACTLY WHEN NO SUCH SEQUENCE OF 4 OR FEWER STEPS EXISTS"

      none_then : NoWay events r s → f ≡ finished_by NoWayOut []
      none_then away =
          either found-or-none
          (λ h.
          let out = fewest-way events r w s h.0 in
          absurd (away (way_of events r (fewest events r s) s) out.few out.finishing))
          (λ h. h.1)

      then-none : T (eqb (number_of f.answer) 17) → NoWay events r s
      then-none t =
          either found-or-none
          (λ h. absurd (subst (λ (x : Finished). T (eqb (number_of x.answer) 17)) h.1 t))
          (λ h. fewest-none events r w s h.0)

  pub given-17 : Whole events → number_of f.answer ≡ 17 → (judged_with g m ≡ Done) × NoWay events r s
  given-17 w e =
      either (split (is_done (judged_with g m)))
      (λ t. let ok = done-is (judged_with g m) (T→true _ t) in (ok, then-none ok w (is-17 f.answer e)))
      (λ t.
      absurd (judged-17 g m
      (subst (λ (x : Finished). T (eqb (number_of x.answer) 17)) (judged-first (F→false _ t)) (is-17 f.answer e))))

  pub gives-17 : Whole events → judged_with g m ≡ Done → NoWay events r s → number_of f.answer ≡ 17
  gives-17 w ok away = ap (λ (x : Finished). number_of x.answer) (none_then ok w away)

  -- ================ 4. A REFUSAL RETURNS FOUR 255S

  pub refusal-unused : is_done f.answer ≡ false → f.way ≡ in_four []
  refusal-unused e =
      either (split (is_done (judged_with g m)))
      (λ t. either (found-or-none (done-is (judged_with g m) (T→true _ t)))
      (λ h. absurd (false→F e (true→T (ap (λ (x : Finished). is_done x.answer) h.1))))
      (λ h. ap (λ (x : Finished). x.way) h.1))
      (λ t. ap (λ (x : Finished). x.way) (judged-first (F→false _ t)))

pub four-unused : ((in_four []).first.0 ≡ 255) × ((in_four []).second.0 ≡ 255) × ((in_four []).third.0 ≡ 255) × ((in_four []).fourth.0 ≡ 255)
four-unused = (refl, refl, refl, refl)

-- What is within the events of an accepted graph, the form of its file can hold: a set, and a marking by itself. Assumes nothing.
use mathlib.Core.Path.{◌≡◌, refl, ◌∙◌}
use mathlib.Core.Bool.{Bool, true, false}
use Prim.Native.Nat.{ℕ, ◌*◌, ◌≤◌, ◌<◌}
use native.Mathlib.Omega.{arith}
use borrow.Author.Tests.{ltb-true, ltb-false}
use lib.Dec.{T, eqb, ltb}
use Rattle.sets.specs.Tests.{when◌then◌else◌}
use Rattle.sets.specs.Members.{width, word, mem, those, no_set, within}
use Rattle.sets.specs.Sizes.{most_activities}
use Rattle.sets.specs.declared.set.Set.{Set}
use Rattle.sets.specs.declared.answer.Answer.TheVariants.{Done}
use Rattle.sets.proofs.Tests.{T→true, T-eq, false→F, and_l}
use Rattle.sets.proofs.Members.{Whole, whole-low, those-e, within-e, within-i, mem-none}
use Rattle.octets.specs.Editions.{narrow_edition, wide_edition, edition_for}
use Rattle.octets.specs.Sets.{set_length}
use Rattle.octets.proofs.SetLaws.{Holds}
use Rattle.engine.specs.Markings.{empty_marking}
use Rattle.engine.specs.Relations.{relations_of}
use Rattle.engine.specs.Judged.{judged}
use Rattle.engine.specs.declared.marking.Marking.{Marking}
use Rattle.engine.specs.declared.graph.Graph.{Graph}
use Rattle.engine.proofs.Enabling.{done-parts, true-says}
use Rattle.engine.proofs.Acceptable.{Kept, judged-activities, judged-within, events-inside, state-parts}
use Rattle.graphfile.specs.Layout.{wide_for}
use Rattle.graphfile.proofs.LoneMarkings.{WholeMarking, HeldMarking}

-- the form that goes with A holds what is below A
pub form-holds : (a : ℕ) → a ≤ most_activities → (s : Set) → ((x : ℕ) → T (mem s x) → x < a) → Holds (wide_for a) s
unfolding edition_for
form-holds a l s below x t = by (ltb word a) refl
  where
    by : (b : Bool) → ltb word a ≡ b → x < 8 * set_length (eqb (when b then wide_edition else narrow_edition) wide_edition)
    by true e = omega (arith, below x t)
    by false e = omega (arith, below x t, ltb-false word a e)

-- either form holds the empty marking
pub empty-held : (wide : Bool) → HeldMarking wide empty_marking
empty-held wide = record { executed = nothing; pending = nothing; included = nothing; enabled = nothing }
  where
    nothing : Holds wide no_set
    nothing a t = absurd (false→F (mem-none a) t)

module _ (g : Graph) (ok : judged g ≡ Done) where
  event-below : (x : ℕ) → x < width → T (mem g.head.events x) → x < g.head.activities
  event-below x low t =
      ltb-true x g.head.activities
      (T→true _
      (those-e (λ a. ltb a g.head.activities) x
      (within-e g.head.events (those (λ a. ltb a g.head.activities)) (events-inside g (judged-within g 0 ok)) x low t)).1)

  pub set-held : (s : Set) → Whole s → T (within s g.head.events) → Holds (wide_for g.head.activities) s
  set-held s whole inside =
      form-holds g.head.activities (judged-activities g 0 ok) s
      (λ x t. let low = whole-low s whole x t in event-below x low (within-e s g.head.events inside x low t))

  -- the enabled activities of a true marking are events
  enabled-inside : (m : Marking) → Kept g m → T (within m.enabled g.head.events)
  enabled-inside m k =
      within-i m.enabled g.head.events
      (λ a l t.
      and_l _ _ (and_l _ _
      (T-eq (true-says g.head.events (relations_of g) m k.truthful a l ∙ done-parts g.head.events (relations_of g) m.state a) t)))

  pub marking-held_lem : (m : Marking) → WholeMarking m → Kept g m → HeldMarking (wide_for g.head.activities) m
  marking-held_lem m w k =
      let parts = state-parts g.head.events m.state k.inside in
      record {
        executed = set-held m.state.executed w.executed parts.0;
        pending = set-held m.state.pending w.pending parts.1;
        included = set-held m.state.included w.included parts.2;
        enabled = set-held m.enabled w.enabled (enabled-inside m k);
      }

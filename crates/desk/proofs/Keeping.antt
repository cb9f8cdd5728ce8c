-- Every marking that is put at a place is within the events of an accepted graph, so that the table's form holds it. Assumes nothing.
use mathlib.Core.Path.{◌≡◌, refl, sym, ap, subst}
use mathlib.Core.Bool.{Bool}
use Prim.Native.Nat.{ℕ, ◌<◌}
use borrow.Author.Tests.{ltb-true, ltb-false}
use lib.Dec.{T, ltb, eqb→eq, lit≤}
use Rattle.sets.specs.Members.{width, mem, those, no_set}
use Rattle.sets.specs.Rows.{in_row}
use Rattle.sets.specs.Tables.{table_at}
use Rattle.sets.specs.Answers.{is_done}
use Rattle.sets.specs.declared.set.Set.{Set}
use Rattle.sets.specs.declared.answer.Answer.TheVariants.{Done}
use Rattle.sets.proofs.Tests.{T→true, true→T, F→false, false→F, T-eq, and_l, and_r, or-e, nor, split, either}
use Rattle.sets.proofs.Members.{Whole, those-ext, mem-those, mem-none, none-those, those-e, within-e, within-i}
use Rattle.sets.proofs.RowLaws.{row_out}
use Rattle.sets.proofs.Asking.{both}
use Rattle.engine.specs.Markings.{empty_marking}
use Rattle.engine.specs.Relations.{relation_count, relations_of}
use Rattle.engine.specs.Enabled.{enabled_set}
use Rattle.engine.specs.Steps.{after}
use Rattle.engine.specs.Judged.{state_within, graph_within, judged_for, judged, judged_with}
use Rattle.engine.specs.Replay.{enabled_of, next_marking}
use Rattle.engine.specs.declared.marking.State.{State}
use Rattle.engine.specs.declared.marking.Marking.{Marking}
use Rattle.engine.specs.declared.graph.Graph.{Graph}
use Rattle.engine.proofs.Judging.{found_none, none_found}
use Rattle.engine.proofs.Enabling.{done-parts, marked-true}
use Rattle.engine.proofs.Acceptable.{Kept, in-inside, rows_inside, state-parts, state-whole, judged-within, opening-kept}
use Rattle.graphfile.proofs.LoneMarkings.{WholeMarking, HeldMarking}
use Rattle.graphfile.proofs.WithinForm.{marking-held_lem}
use Rattle.desk.specs.Desk.{form_of}

-- ---- markings as the code has them

whole-those : (p : ℕ → Bool) → Whole (those p)
whole-those p = those-ext (mem (those p)) p (λ a l. mem-those p a l)

pub whole-next : (g : Graph) (m : Marking) (a : ℕ) → WholeMarking (next_marking g m a)
unfolding after enabled_set
whole-next g m a = record { executed = whole-those _; pending = whole-those _; included = whole-those _; enabled = whole-those _ }

pub whole-empty : WholeMarking empty_marking
whole-empty = record { executed = nothing; pending = nothing; included = nothing; enabled = nothing }
  where
    nothing : Whole no_set
    nothing = sym (none-those (mem no_set) (λ a l. mem-none a))

-- ---- within the events

-- the opening marking of an accepted graph
pub opening-held : (g : Graph) → judged g ≡ Done → WholeMarking g.head.opening → HeldMarking (form_of g) g.head.opening
opening-held g ok whole = marking-held_lem g ok g.head.opening whole (opening-kept g ok)

module _ (g : Graph) (w : T (graph_within g)) where
  -- what stands in a row is an event, whatever number the row has
  listed : (k : ℕ) → k < relation_count → (e a : ℕ) → a < width → T (in_row (table_at g.relations k) e a) → T (mem g.head.events a)
  unfolding in_row
  listed k l e a la t =
      either (split (ltb e width))
      (λ low. in-inside g.head.events (table_at g.relations k) (rows_inside g w k l) e (ltb-true e width (T→true _ low)) a la t)
      (λ up.
      let none = row_out (table_at g.relations k) e (ltb-false e width (F→false _ up)) in
      absurd (false→F (mem-none a) (subst (λ (s : Set). T (mem s a)) (sym none) t)))

  -- the step of an event keeps the state within the events, whatever number the event has
  stays : (m : State) (e : ℕ) → T (mem g.head.events e) → T (state_within g.head.events m)
      → T (state_within g.head.events (after (relations_of g) m e))
  unfolding after
  stays m e ev k =
      let p = state-parts g.head.events m k in
      let E = g.head.events in
      state-whole E (after (relations_of g) m e)
      (within-i _ E (λ a la t. either (or-e _ _ (those-e _ a t).1) (λ x. within-e _ E p.0 a la x)
      (λ x. subst (λ (b : ℕ). T (mem E b)) (sym (eqb→eq a e x)) ev)))
      (within-i _ E (λ a la t. either (or-e _ _ (those-e _ a t).1) (λ x. within-e _ E p.1 a la (and_l _ _ x)) (λ x. listed 1 (lit≤ tt) e a la x)))
      (within-i _ E (λ a la t. either (or-e _ _ (those-e _ a t).1) (λ x. within-e _ E p.2 a la (and_l _ _ x)) (λ x. listed 2 (lit≤ tt) e a la x)))

-- a graph and a marking that are accepted together are so by themselves
apart-judged : (g : Graph) (m : Marking) → judged_with g m ≡ Done → (judged g ≡ Done) × Kept g m
unfolding judged_with judged_for
apart-judged g m h =
    let t = found_none _ _ _ h in (
      none_found _ _ _ (nor _ _ t.0 refl) (and_l _ _ t.1) (and_l _ _ t.2),
      record { inside = and_r _ _ t.1; truthful = and_r _ _ t.2 },
    )

-- the marking after a step that was done
pub next-held : (g : Graph) (m : Marking) (e : ℕ) → enabled_of g m e ≡ Done → HeldMarking (form_of g) (next_marking g m e)
unfolding enabled_of
next-held g m e h =
    let asked = both (judged_with g m) _ h in
    let ok = apart-judged g m asked.0 in
    let said = T-eq (done-parts g.head.events (relations_of g) m.state e) (true→T (ap is_done asked.1)) in
    marking-held_lem g ok.0 (next_marking g m e) (whole-next g m e)
    (record {
      inside = stays g (judged-within g 0 ok.0) m.state e (and_l _ _ (and_l _ _ said)) ok.1.inside;
      truthful = marked-true g.head.events (relations_of g) (after (relations_of g) m.state e);
    })

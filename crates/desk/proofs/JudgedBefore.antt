-- On a graph that was judged before step, close and the way out give the same with the call's marking judged alone. Assumes nothing.
use mathlib.Core.Path.{◌≡◌, refl, ap, ◌∙◌}
use mathlib.Core.Bool.{Bool, true, false}
use mathlib.Core.List.{List, []}
use Prim.Native.Nat.{ℕ}
use lib.Dec.{ltb}
use lib.ListN.{length}
use Rattle.sets.specs.Tests.{non, when◌then◌else◌}
use Rattle.sets.specs.Answers.{is_done}
use Rattle.sets.specs.declared.answer.Answer.{Answer}
use Rattle.sets.specs.declared.answer.Answer.TheVariants.{Done, BufferTooSmall, NotOpen}
use Rattle.engine.specs.Markings.{empty_marking}
use Rattle.engine.specs.Relations.{relations_of}
use Rattle.engine.specs.Judged.{judged}
use Rattle.engine.specs.Replay.{next_marking}
use Rattle.engine.specs.declared.graph.Graph.{Graph}
use Rattle.engine.proofs.Acceptable.{beside-judged, enabled-on_lem}
use Rattle.finish.specs.Ways.{finished_by, finish_of}
use Rattle.finish.specs.declared.search.Finished.{Finished}
use Rattle.finish.proofs.Searching.{finish-on_lem}
use Rattle.desk.specs.Places.{table_length, is_open, marking_at_place, with_marking, with_place}
use Rattle.desk.specs.WayOut.{finished_at, finished_on}
use Rattle.desk.specs.Desk.{form_of, at_place, place_answer, closing_after, closing}
use Rattle.desk.specs.Desk.{step_answer, table_stepped, close_answer, table_closed, step_answer_on, table_stepped_on, close_answer_on, table_closed_on}

module _ (g : Graph) (h : judged g ≡ Done) (table : List ℕ) (p : ℕ) where
  pub step-answer-on_lem : (a : ℕ) → step_answer g table p a ≡ step_answer_on (form_of g) g.head.events (relations_of g) table p a
  unfolding step_answer step_answer_on
  step-answer-on_lem a = ap (at_place (form_of g) table p) (enabled-on_lem g h (marking_at_place (form_of g) table p) a)

  pub step-table-on : (a : ℕ) → table_stepped g table p a ≡ table_stepped_on (form_of g) g.head.events (relations_of g) table p a
  unfolding table_stepped table_stepped_on
  step-table-on a =
      ap (λ (x : Answer). when is_done x then with_marking (form_of g) table p (next_marking g (marking_at_place (form_of g) table p) a) else table) (step-answer-on_lem a)

  pub close-answer-on_lem : close_answer g table p ≡ close_answer_on (form_of g) g.head.events (relations_of g) table p
  unfolding close_answer closing close_answer_on
  close-answer-on_lem =
      ap (λ (x : Answer). at_place (form_of g) table p (closing_after x (marking_at_place (form_of g) table p))) (beside-judged g h (marking_at_place (form_of g) table p))

  pub close-table-on : table_closed g table p ≡ table_closed_on (form_of g) g.head.events (relations_of g) table p
  unfolding table_closed table_closed_on
  close-table-on = ap (λ (x : Answer). when is_done x then with_place (form_of g) table p 0 empty_marking else table) close-answer-on_lem

  pub finished-on_lem : finished_at g table p ≡ finished_on (form_of g) g.head.events (relations_of g) table p
  unfolding finished_at finished_on place_answer
  finished-on_lem =
      by (ltb (length table) (table_length (form_of g))) (non (is_open (form_of g) table p)) (finish_of g (marking_at_place (form_of g) table p))
      ∙ ap (λ (f : Finished). when is_done (place_answer (form_of g) table p) then f else finished_by (place_answer (form_of g) table p) [])
      (finish-on_lem g h (marking_at_place (form_of g) table p))
    where
      by : (short free : Bool) (f : Finished)
          → (when short then finished_by BufferTooSmall [] else when free then finished_by NotOpen [] else f)
          ≡ (when is_done (when short then BufferTooSmall else when free then NotOpen else Done) then f
          else finished_by (when short then BufferTooSmall else when free then NotOpen else Done) [])
      by true free f = refl
      by false true f = refl
      by false false f = refl

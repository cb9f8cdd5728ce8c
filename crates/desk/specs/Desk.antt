-- What the desk answers, and its table afterwards, for every graph, table, place and activity (02, 5/12).
use Rattle.std.specs.Prelude.{Bool, List, ℕ, ltb, length}
use Rattle.sets.specs.Tests.{non, when◌then◌else◌}
use Rattle.sets.specs.Members.{every_below}
use Rattle.sets.specs.Answers.{is_done, then_ask}
use Rattle.sets.specs.declared.set.Set.{Set}
use Rattle.sets.specs.declared.answer.Answer.{Answer}
use Rattle.sets.specs.declared.answer.Answer.TheVariants.{Done, BufferTooSmall, NoPlaceFree, NotOpen, NotAccepting}
use Rattle.engine.specs.Markings.{empty_marking}
use Rattle.engine.specs.Relations.{Relations}
use Rattle.engine.specs.Steps.{after, accepting}
use Rattle.engine.specs.Enabled.{marked}
use Rattle.engine.specs.Judged.{judged, judged_with, judged_beside}
use Rattle.engine.specs.Replay.{enabled_of, enabled_on, next_marking}
use Rattle.engine.specs.declared.marking.Marking.{Marking}
use Rattle.engine.specs.declared.graph.Graph.{Graph}
use Rattle.graphfile.specs.Layout.{wide_for}
use Rattle.desk.specs.declared.requests.Opened.{Opened}
use Rattle.desk.specs.Places.{place_count, table_length, is_open, marking_at_place, with_marking, with_place, lowest_free}

-- a desk's table is in the form that the file of its graph has (02, 10/12)
abbrev pub form_of : Graph → Bool
form_of g = wide_for g.head.activities

-- a table of too few bytes is none: 7, before everything else
abbrev pub on_table : Bool → List ℕ → Answer → Answer
on_table wide table answer = when ltb (length table) (table_length wide) then BufferTooSmall else answer

-- nor is there a call at a place above 31 or not open: 14, before all that is asked of a call
abbrev pub at_place : Bool → List ℕ → ℕ → Answer → Answer
at_place wide table p answer = on_table wide table (when non (is_open wide table p) then NotOpen else answer)

-- these two alone
unfoldable pub place_answer : Bool → List ℕ → ℕ → Answer
place_answer wide table p = at_place wide table p Done

-- ---- open

-- 3, 5 and 16 for the graph, then 13 where all 32 places are taken, by a test of those that are
unfoldable pub opening : Graph → (ℕ → Bool) → Answer
opening g taken = then_ask (judged g) (when every_below place_count taken then NoPlaceFree else Done)

unfoldable pub open_answer : Graph → List ℕ → Answer
open_answer g table = on_table (form_of g) table (opening g (is_open (form_of g) table))

-- what stands in a place's stead where open is refused
abbrev pub no_place : ℕ
no_place = 255

-- the lowest free place
unfoldable pub opened_of : Graph → List ℕ → Opened
opened_of g table =
    record {
      answer = open_answer g table;
      place = when is_done (open_answer g table) then lowest_free (is_open (form_of g) table) else no_place;
    }

-- it is open, at the opening marking
unfoldable pub table_opened : Graph → List ℕ → List ℕ
table_opened g table =
    when is_done (open_answer g table) then with_place (form_of g) table (lowest_free (is_open (form_of g) table)) 1 g.head.opening else table

-- ---- step: 14, then as the engine's enabled has it at the place's own marking: 3, 5, 16, 8, 9, and 10 with the blocker

unfoldable pub step_answer : Graph → List ℕ → ℕ → ℕ → Answer
step_answer g table p a = at_place (form_of g) table p (enabled_of g (marking_at_place (form_of g) table p) a)

-- the place has the marking after the step
unfoldable pub table_stepped : Graph → List ℕ → ℕ → ℕ → List ℕ
table_stepped g table p a =
    when is_done (step_answer g table p a) then with_marking (form_of g) table p (next_marking g (marking_at_place (form_of g) table p) a) else table

-- the same on a graph that was judged before, whose form is handed over
unfoldable pub step_answer_on : Bool → Set → Relations → List ℕ → ℕ → ℕ → Answer
step_answer_on wide events r table p a = at_place wide table p (enabled_on events r (marking_at_place wide table p) a)

-- the marking after the step, at its place
abbrev pub stepped_at : Bool → Set → Relations → List ℕ → ℕ → ℕ → List ℕ
stepped_at wide events r table p a = with_marking wide table p (marked events r (after r (marking_at_place wide table p).state a))

unfoldable pub table_stepped_on : Bool → Set → Relations → List ℕ → ℕ → ℕ → List ℕ
table_stepped_on wide events r table p a = when is_done (step_answer_on wide events r table p a) then stepped_at wide events r table p a else table

-- ---- close: 14, then at the place's own marking 3, 5, 16, and 15 where it is not accepting

abbrev pub closing_after : Answer → Marking → Answer
closing_after judgement m = then_ask judgement (when non (accepting m.state) then NotAccepting else Done)

unfoldable pub closing : Graph → Marking → Answer
closing g m = closing_after (judged_with g m) m

unfoldable pub close_answer : Graph → List ℕ → ℕ → Answer
close_answer g table p = at_place (form_of g) table p (closing g (marking_at_place (form_of g) table p))

-- the place is free, and holds the empty marking
unfoldable pub table_closed : Graph → List ℕ → ℕ → List ℕ
table_closed g table p = when is_done (close_answer g table p) then with_place (form_of g) table p 0 empty_marking else table

-- the same on a graph that was judged before
unfoldable pub close_answer_on : Bool → Set → Relations → List ℕ → ℕ → Answer
close_answer_on wide events r table p =
    at_place wide table p (closing_after (judged_beside events r (marking_at_place wide table p)) (marking_at_place wide table p))

unfoldable pub table_closed_on : Bool → Set → Relations → List ℕ → ℕ → List ℕ
table_closed_on wide events r table p = when is_done (close_answer_on wide events r table p) then with_place wide table p 0 empty_marking else table

-- The way out of the call at a place (02, 8/12: "It works on markings from the file or from the desk"), for every graph, table and place.
use Rattle.std.specs.Prelude.{Bool, List, [], ℕ, ltb, length}
use Rattle.sets.specs.Tests.{non, when◌then◌else◌}
use Rattle.sets.specs.Answers.{is_done}
use Rattle.sets.specs.declared.set.Set.{Set}
use Rattle.sets.specs.declared.answer.Answer.TheVariants.{BufferTooSmall, NotOpen}
use Rattle.engine.specs.declared.graph.Graph.{Graph}
use Rattle.engine.specs.Relations.{Relations}
use Rattle.finish.specs.Ways.{finished_by, finish_of, finish_on}
use Rattle.finish.specs.declared.search.Finished.{Finished}
use Rattle.desk.specs.Places.{table_length, is_open, marking_at_place}
use Rattle.desk.specs.Desk.{form_of, place_answer}
use Rattle.desk.specs.Histories.{Call, none, since, marking_after}

-- 7 where the bytes are too few for a table, 14 where the place is above 31 or not open, then what the search gives at the place's own marking:
-- 3, 5, 16, 17, or the way; a refusal returns four 255s
unfoldable pub finished_at : Graph → List ℕ → ℕ → Finished
finished_at g table p =
    when ltb (length table) (table_length (form_of g)) then finished_by BufferTooSmall []
    else when non (is_open (form_of g) table p) then finished_by NotOpen []
    else finish_of g (marking_at_place (form_of g) table p)

-- the same on a graph that was judged before, whose form is handed over: what step and close ask comes first
unfoldable pub finished_on : Bool → Set → Relations → List ℕ → ℕ → Finished
finished_on wide events r table p =
    when is_done (place_answer wide table p) then finish_on events r (marking_at_place wide table p) else finished_by (place_answer wide table p) []

-- what is given at a place, by the graph and the place's own call alone
unfoldable pub finish_by : Graph → Call → Finished
finish_by g none = finished_by NotOpen []
finish_by g (since past) = finish_of g (marking_after g past)

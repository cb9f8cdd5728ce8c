-- The way out of a half-done call, and what shut a step out, on the graph of a file (02, 8/12).
use Rattle.std.specs.Prelude.{List, [], ◌∷◌, ℕ, ltb, length}
use Rattle.std.proofs.lemmas.List.Edits.{sets}
use Rattle.sets.specs.Tests.{non, when◌then◌else◌}
use Rattle.sets.specs.Answers.{number_of, is_done}
use Rattle.sets.specs.declared.answer.Answer.TheVariants.{BufferTooSmall}
use Rattle.engine.specs.Relations.{relations_of}
use Rattle.octets.specs.Editions.{wide_in}
use Rattle.graphfile.specs.Held.{read_of}
use Rattle.graphfile.specs.Markings.{marking_length, marking_from}
use Rattle.finish.specs.Ways.{finished_by, finish_of}
use Rattle.finish.specs.Shut.{nothing, shut_by}
use Rattle.finish.specs.declared.search.Way.{Way}
use Rattle.finish.specs.declared.search.Finished.{Finished}
use Rattle.desk.specs.WayOut.{finished_at}
use Rattle.port.specs.Port.{packed_of}
use Rattle.port.specs.Desk.{before_place}

-- how many bytes a way takes
abbrev pub way_length : ℕ
way_length = 4

-- the bytes with a way in the first four; as they were where there are fewer
unfoldable pub way_into : Way → List ℕ → List ℕ
way_into w bytes =
    when ltb (length bytes) way_length then bytes
    else sets bytes 0 (w.first.0 ∷ w.second.0 ∷ w.third.0 ∷ w.fourth.0 ∷ [])

-- what is left of a search: the lent bytes with its way where it is done, as they were where it is refused
unfoldable pub way_after : Finished → List ℕ → List ℕ
way_after f way = when is_done f.answer then way_into f.way way else way

-- the file's refusals, then 7 where the marking has too few bytes, or the room for the way, then what the search gives
unfoldable pub finish_in : List ℕ → List ℕ → ℕ → Finished
finish_in file marking room =
    when non (is_done (read_of file).answer) then finished_by (read_of file).answer []
    else when ltb (length marking) (marking_length (wide_in file)) then finished_by BufferTooSmall []
    else when ltb room way_length then finished_by BufferTooSmall []
    else finish_of (read_of file).graph (marking_from (wide_in file) marking)

-- skelfora_finish
abbrev pub finish_number : List ℕ → List ℕ → ℕ → ℕ
finish_number file marking room = number_of (finish_in file marking room).answer

abbrev pub finish_bytes : List ℕ → List ℕ → List ℕ → List ℕ
finish_bytes file marking way = way_after (finish_in file marking (length way)) way

-- the call at a place: what step and close ask first, then 7 where the room for the way has too few bytes, then what the desk gives
unfoldable pub desk_finish_in : List ℕ → List ℕ → ℕ → ℕ → Finished
desk_finish_in file table p room =
    when non (is_done (before_place file table p)) then finished_by (before_place file table p) []
    else when ltb room way_length then finished_by BufferTooSmall []
    else finished_at (read_of file).graph table p

-- skelfora_desk_finish
abbrev pub desk_finish_number : List ℕ → List ℕ → ℕ → ℕ → ℕ
desk_finish_number file table p room = number_of (desk_finish_in file table p room).answer

abbrev pub desk_finish_bytes : List ℕ → List ℕ → ℕ → List ℕ → List ℕ
desk_finish_bytes file table p way = way_after (desk_finish_in file table p (length way)) way

-- skelfora_shut_by: the file's refusals, with 255; then what shut the activity out, 255 where nothing did
unfoldable pub shut_number : List ℕ → List ℕ → ℕ → ℕ
shut_number file trace a =
    packed_of (read_of file).answer (when is_done (read_of file).answer then shut_by (relations_of (read_of file).graph) trace a else nothing)

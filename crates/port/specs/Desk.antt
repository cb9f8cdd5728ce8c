-- The call desk's functions: the graph comes as a file, the table as lent bytes (02, 5/12).
use Rattle.std.specs.Prelude.{false, List, ℕ}
use Rattle.sets.specs.Tests.{when◌then◌else◌}
use Rattle.sets.specs.Answers.{is_done, then_ask}
use Rattle.sets.specs.declared.answer.Answer.{Answer}
use Rattle.octets.specs.Editions.{wide_in}
use Rattle.graphfile.specs.Held.{read_of}
use Rattle.desk.specs.Desk.{on_table, place_answer, no_place, opened_of, table_opened, step_answer, table_stepped, close_answer, table_closed}
use Rattle.desk.specs.declared.requests.Opened.{Opened}
use Rattle.port.specs.Port.{packed_of, blocked_of}

-- what is asked before there is a graph: 7, for step and close 14 too, then the file's refusals. The table's form is that of the file, by its edition
unfoldable pub before_open : List ℕ → List ℕ → Answer
before_open file table = on_table (wide_in file) table (read_of file).answer

unfoldable pub before_place : List ℕ → List ℕ → ℕ → Answer
before_place file table p = then_ask (place_answer (wide_in file) table p) (read_of file).answer

abbrev pub refused_open : Answer → Opened
refused_open a = record { answer = a; place = no_place }

-- skelfora_desk_open: these, then what the desk gives on the file's graph; the number, and 256 times the place
unfoldable pub desk_opened_of : List ℕ → List ℕ → Opened
desk_opened_of file table =
    when is_done (before_open file table) then opened_of (read_of file).graph table else refused_open (before_open file table)

abbrev pub desk_open_number : List ℕ → List ℕ → ℕ
desk_open_number file table = packed_of (desk_opened_of file table).answer (desk_opened_of file table).place

unfoldable pub desk_open_table : List ℕ → List ℕ → List ℕ
desk_open_table file table = when is_done (before_open file table) then table_opened (read_of file).graph table else table

-- skelfora_desk_step: the number, and 2^40 times the blocker
unfoldable pub desk_step_number : List ℕ → List ℕ → ℕ → ℕ → ℕ
desk_step_number file table p a = blocked_of (then_ask (before_place file table p) (step_answer (read_of file).graph table p a)) 0 false

unfoldable pub desk_step_table : List ℕ → List ℕ → ℕ → ℕ → List ℕ
desk_step_table file table p a = when is_done (before_place file table p) then table_stepped (read_of file).graph table p a else table

-- skelfora_desk_close: the number
unfoldable pub desk_close_number : List ℕ → List ℕ → ℕ → ℕ
desk_close_number file table p = packed_of (then_ask (before_place file table p) (close_answer (read_of file).graph table p)) 0

unfoldable pub desk_close_table : List ℕ → List ℕ → ℕ → List ℕ
desk_close_table file table p = when is_done (before_place file table p) then table_closed (read_of file).graph table p else table

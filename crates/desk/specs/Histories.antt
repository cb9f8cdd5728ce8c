-- Histories of requests, and the call at each place (02, 5/12: "What step and close answer at a place depends only on the graph, on that
-- place's own opening and the steps taken there since"). No bytes here: a call is known by its own steps.
use Rattle.std.specs.Prelude.{◌≡◌, Bool, true, false, List, [], ◌∷◌, ℕ, ◌≤◌, eqb, length}
use Rattle.sets.specs.Tests.{◌and◌, when◌then◌else◌}
use Rattle.sets.specs.Answers.{is_done}
use Rattle.sets.specs.declared.answer.Answer.{Answer}
use Rattle.sets.specs.declared.answer.Answer.TheVariants.{NotOpen}
use Rattle.engine.specs.Replay.{enabled_of, next_marking}
use Rattle.engine.specs.declared.marking.Marking.{Marking}
use Rattle.engine.specs.declared.graph.Graph.{Graph}
use Rattle.desk.specs.Places.{table_length, is_open, lowest_free}
use Rattle.desk.specs.Desk.{opening, closing, table_opened, table_stepped, table_closed}

-- a step names a place and an activity, a close a place
pub data Request : Type 0 where
  Open : Request
  Step : ℕ → ℕ → Request
  Close : ℕ → Request

-- the table after a request, and after a history of them, the latest first
unfoldable pub table_served : Graph → List ℕ → Request → List ℕ
table_served g table Open = table_opened g table
table_served g table (Step p a) = table_stepped g table p a
table_served g table (Close p) = table_closed g table p

unfoldable pub table_after : Graph → List ℕ → List Request → List ℕ
table_after g table [] = table
table_after g table (r ∷ history) = table_served g (table_after g table history) r

-- a fresh desk: a table, in its graph's form, on which no place is open
pub record Fresh (wide : Bool) (table : List ℕ) : Type 0 where
  pub long : table_length wide ≤ length table
  pub free : (p : ℕ) → is_open wide table p ≡ false

-- a place has no call, or one with the steps taken there since its opening, the latest first
pub data Call : Type 0 where
  none : Call
  since : List ℕ → Call

abbrev pub is_taken : Call → Bool
is_taken none = false
is_taken (since past) = true

-- the marking after these steps, from the opening state
unfoldable pub marking_after : Graph → List ℕ → Marking
marking_after g [] = g.head.opening
marking_after g (a ∷ past) = next_marking g (marking_after g past) a

-- what step and close answer, by the graph and the call alone
unfoldable pub step_by : Graph → Call → ℕ → Answer
step_by g none a = NotOpen
step_by g (since past) a = enabled_of g (marking_after g past) a

unfoldable pub close_by : Graph → Call → Answer
close_by g none = NotOpen
close_by g (since past) = closing g (marking_after g past)

-- the call after a step, after a close; as it was where refused
abbrev pub with_step : ℕ → Call → Call
with_step a none = none
with_step a (since past) = since (a ∷ past)

abbrev pub stepped : Graph → Call → ℕ → Call
stepped g c a = when is_done (step_by g c a) then with_step a c else c

abbrev pub closed : Graph → Call → Call
closed g c = when is_done (close_by g c) then none else c

-- the call at a place after a history: open gives the lowest place without one a new call; step and close touch their own place alone
unfoldable pub call_at : Graph → List Request → ℕ → Call
call_at g [] p = none
call_at g (Open ∷ history) p =
    when is_done (opening g (λ q. is_taken (call_at g history q))) and eqb p (lowest_free (λ q. is_taken (call_at g history q))) then since []
    else call_at g history p
call_at g (Step q a ∷ history) p = when eqb p q then stepped g (call_at g history p) a else call_at g history p
call_at g (Close q ∷ history) p = when eqb p q then closed g (call_at g history p) else call_at g history p

-- THE THREE DEMANDS, as theorems about the public functions. Begin here. Assumes nothing.
--
-- How to read it. `MineGives bytes p r` says that the function `mine` may give r for these bytes and the profile p, by its own contract
-- (Contracts); so a theorem that starts from it fails where the contract says less. `number_of` gives 01's number of an answer, and
-- `numbers` below is the whole table. The definitions are in the words of 01, in specs/ of their crates.
--
-- Beside this file: Outcomes, that each public function has one outcome; StandIns and Counts, in which functions that 01 does not want are shut
-- out; and rules/proofs/Cases, the (P) cases of 01 in one table under one theorem. The requests of 02 have a file each:
-- PlainEngine, 1/12: the engine on lists of pairs gives what the engine on sets gives.
-- Blocker, 2/12: 10 carries the smallest activity that blocks, every other number 255.
-- Light, 3/12: what the profiles are, what 12 leaves, what the summary counts.
-- Desk, 5/12: what the call desk answers at a place depends on that place's own call alone; open; a freed place.
-- Enabled, 6/12: every marking given back has the true set of enabled activities; 16 exactly where a set is false; a replay is its steps.
-- NotRedundant, 7/12: which exclusions step 7 takes out of the mined graph, and that it takes out no other.
-- Finish, 8/12: a way out is a finishing sequence, the shortest and the first of these; 17 exactly where there is none.
-- FinishAtPlace, 8/12: at a place of the desk the way out is that of the place's own call; 14 exactly where there is none.
-- ShutOut, 8/12: what is said to have shut a step out is an event of the call that excludes it.
-- Marks, 9/12: each count is the number of traces of its kind, and they add up; the measures; 18 and 19; demand 3 in marks.
-- Wide, 10/12: which edition goes with which A; a graph has one file; files of edition 1 are read as before; the new refusals.
-- LightByDefault, 11/12: what the listing program's arguments mean, none being light; that nothing else moved, and what is written for each.
-- SameTraces, 12/12: logs with the same A and the same set of non-empty traces give the same graph.
-- Months, 12/12: what tallies of months hold, joined in any order and grouping, and the relations of steps 1 to 8 that are read from them.
use mathlib.Core.Path.{◌≡◌, refl, sym, ap, subst, ◌∙◌}
use mathlib.Core.Bool.{Bool, true, false}
use mathlib.Core.Logic.{◌⊎◌}
use mathlib.Core.List.{List, [], ◌∷◌, ◌++◌, map}
use Prim.Native.Nat.{ℕ, ◌+◌, ◌≤◌, ◌<◌}
use lib.Dec.{eqb, ltb}
use lib.ListN.{length, take, drop}
use Rattle.sets.specs.Tests.{◌and◌, when◌then◌else◌}
use Rattle.sets.specs.Answers.{number_of, blocker_of, is_done, then_ask}
use Rattle.sets.specs.declared.activity.Activity.{Activity}
use Rattle.sets.specs.declared.answer.Answer.{Answer}
use Rattle.sets.specs.declared.answer.Answer.TheVariants.{Done, TooShort, WrongLetters, AboveLimit, WrongOffset, Outside, BadRow, BufferTooSmall, NoEvent, NotIncluded, Waiting, NoTrace, WrongArgument}
use Rattle.sets.specs.declared.answer.Answer.TheVariants.{NoPlaceFree, NotOpen, NotAccepting, FalseEnabled, NoWayOut}
use Rattle.sets.specs.declared.answer.Answer.TheVariants.{LabelsNotAsMany, LabelAboveOne}
use Rattle.sets.proofs.Members.{mem-those}
use Rattle.sets.proofs.Asking.{done-is}
use Rattle.engine.specs.Markings.{empty_marking}
use Rattle.engine.specs.Relations.{empty_graph, relations_of}
use Rattle.engine.specs.Steps.{enabled, after, accepting}
use Rattle.engine.specs.Judged.{judged_for, judged, judged_with}
use Rattle.engine.specs.Replay.{enabled_of, next_marking, stepped_of, accepting_of, ending, replay_from, replay_of}
use Rattle.engine.specs.declared.marking.Marking.{Marking}
use Rattle.engine.specs.declared.graph.Graph.{Graph}
use Rattle.engine.specs.declared.step.Stepped.{Stepped}
use Rattle.engine.specs.declared.step.Verdict.{Verdict}
use Rattle.engine.specs.declared.replay.Replayed.{Replayed}
use Rattle.engine.proofs.Acceptable.{judged-for_lem}
use Rattle.calllog.specs.Layout.{traces_in, length_at}
use Rattle.calllog.specs.Judged.{judged_log}
use Rattle.calllog.specs.Logs.{log_of, start_at, no_part, found_as, finding_of, found_of, asked_of}
use Rattle.calllog.specs.declared.judge.Judged.{Judged}
use Rattle.calllog.specs.declared.trace.Found.{Found}
use Rattle.calllog.specs.declared.trace.Asked.{Asked}
use Rattle.calllog.proofs.Given.{log-answer, judged-refused}
use Rattle.calllog.proofs.Finding.{found-answer}
use Rattle.calllog.proofs.Traces.{read-within}
use Rattle.graphfile.specs.Refusals.{judged_file}
use Rattle.graphfile.specs.Held.{graph_in, read_of}
use Rattle.graphfile.specs.Writing.{bytes_of, judged_write, written_of, file_after}
use Rattle.graphfile.specs.declared.reader.Reading.{Reading}
use Rattle.graphfile.specs.declared.writer.Written.{Written}
use Rattle.octets.proofs.Codec.{Bytes}
use Rattle.graphfile.proofs.GraphFile.{Machine}
use Rattle.graphfile.proofs.RoundTrips.{written-then-read, read-then-written}
use Rattle.rules.specs.declared.Profile.{Profile}
use Rattle.rules.specs.Mining.{mined}
use Rattle.rules.specs.Mined.{mined_graph}
use Rattle.rules.proofs.FromFile.{file-accepted}
use Rattle.miner.specs.Mine.{mined_of}
use Rattle.miner.specs.declared.mining.Mined.{Mined}
use Rattle.promises.specs.Promised.{trace_of, judged_copy, graph_back, file_back, file_copied}
use Rattle.promises.specs.Demanded.{Refused, PairForPair, Stepping, InTurn, StopsAt, GoesThrough, Settles}
use Rattle.promises.proofs.Contracts.{NumberGives, number-said, BlockerGives, blocker-said, JudgeLogGives, judge-log-said, MineGives, mine-said, FindTraceGives, find-trace-said, AskGives, ask-said, EnabledGives, enabled-said, StepGives, step-said, ExecuteGives, execute-said, AcceptingGives, accepting-said, ReplayGives, replay-said, WriteGives, write-said, ReadGives, read-said, GraphBackGives, graph-back-said, FileBackGives, file-back-said, ReplayOwnGives, replay-own-said, ReplayNoneGives, replay-none-said}
use Rattle.miner.proofs.Given.{mined-answer, mined-graph_lem, mined-nothing, mined-judged}
use Rattle.promises.proofs.Own.{mined-pending, own-through, none-through, finds}
use Rattle.promises.proofs.Pairs.{pairs}
use Rattle.promises.proofs.StepForStep.{stops_at, goes_through}
use Rattle.promises.proofs.Early.{replay-runs, early-nothing}

-- ================ THE NUMBERS

-- the cases of an answer; one of them carries an activity
abbrev cases : Activity → List Answer
cases b =
    Done ∷ TooShort ∷ WrongLetters ∷ AboveLimit ∷ WrongOffset ∷ Outside ∷ BadRow ∷ BufferTooSmall ∷ NoEvent ∷ NotIncluded ∷ Waiting b ∷ NoTrace
    ∷ WrongArgument ∷ NoPlaceFree ∷ NotOpen ∷ NotAccepting ∷ FalseEnabled ∷ NoWayOut ∷ LabelsNotAsMany ∷ LabelAboveOne ∷ []

-- 01's table, "Numbers given back", and 02's numbers: the number of each
pub numbers : (b : Activity) → map number_of (cases b) ≡ 0 ∷ 1 ∷ 2 ∷ 3 ∷ 4 ∷ 5 ∷ 6 ∷ 7 ∷ 8 ∷ 9 ∷ 10 ∷ 11 ∷ 12 ∷ 13 ∷ 14 ∷ 15 ∷ 16 ∷ 17 ∷ 18 ∷ 19 ∷ []
numbers b = refl

-- 02, 2/12: the blocker beside each
pub blockers : (b : Activity)
    → map blocker_of (cases b)
    ≡ 255 ∷ 255 ∷ 255 ∷ 255 ∷ 255 ∷ 255 ∷ 255 ∷ 255 ∷ 255 ∷ 255 ∷ b.0 ∷ 255 ∷ 255 ∷ 255 ∷ 255 ∷ 255 ∷ 255 ∷ 255 ∷ 255 ∷ 255 ∷ []
blockers b = refl

-- that is the number which the function `number` gives
pub number-given : (a : Answer) (n : ℕ) → NumberGives a n → n ≡ number_of a
number-given = number-said

-- and that the blocker which the function `blocker` gives
pub blocker-given : (a : Answer) (n : ℕ) → BlockerGives a n → n ≡ blocker_of a
blocker-given = blocker-said

-- 0 is the number of done alone
done-by : (a : Answer) → number_of a ≡ 0 → a ≡ Done
done-by a h = done-is a (ap (λ (n : ℕ). eqb n 0) h)

-- ================ DEMAND 1

-- Every input gets a result, with no fault and no trust in the caller: each function that Outcomes lists is proved, and none has
-- a `requires`.

-- ---- refusals exactly where 01 lists them: the number is that of the judgement of what was passed, in 01's order

module _ (bytes : List ℕ) where
  the-log : (r : Judged) → JudgeLogGives bytes r → r.answer ≡ judged_log bytes
  the-log r c = ap (λ (x : Judged). x.answer) (judge-log-said bytes r c) ∙ log-answer bytes

  pub log-number : (r : Judged) → JudgeLogGives bytes r → number_of r.answer ≡ number_of (judged_log bytes)
  log-number r c = ap number_of (the-log r c)

  the-mined : (p : Profile) (r : Mined) → MineGives bytes p r → r.answer ≡ judged_log bytes
  the-mined p r c = ap (λ (x : Mined). x.answer) (mine-said bytes p r c) ∙ mined-answer bytes p

  pub mine-number_lem : (p : Profile) (r : Mined) → MineGives bytes p r → number_of r.answer ≡ number_of (judged_log bytes)
  mine-number_lem p r c = ap number_of (the-mined p r c)

  pub trace-number_lem : (k : ℕ) (r : Found) → FindTraceGives bytes k r
      → number_of r.answer ≡ number_of (then_ask (judged_log bytes) (when ltb k (traces_in bytes) then Done else NoTrace))
  unfolding finding_of
  trace-number_lem k r c = ap (λ (x : Found). number_of x.answer) (find-trace-said bytes k r c) ∙ ap number_of (found-answer bytes k)

  the-read : (r : Reading) → ReadGives bytes r → r.answer ≡ judged_file bytes
  unfolding read_of
  the-read r c = ap (λ (x : Reading). x.answer) (read-said bytes r c)

  pub read_number : (r : Reading) → ReadGives bytes r → number_of r.answer ≡ number_of (judged_file bytes)
  read_number r c = ap number_of (the-read r c)

module _ (g : Graph) where
  pub write-number : (before : List ℕ) (w : Written) (after : List ℕ) → WriteGives g before w after
      → number_of w.answer ≡ number_of (then_ask (judged g) (when ltb (length before) (length (bytes_of g)) then BufferTooSmall else Done))
  unfolding written_of judged_write
  write-number before w after c = ap (λ (x : Written). number_of x.answer) (write-said g before w after c).0

  module _ (m : Marking) where
    abbrev asked : ℕ → Answer
    asked e = then_ask (judged_with g m) (enabled g.head.events (relations_of g) m.state e)

    pub enabled-number : (e : ℕ) (a : Answer) → EnabledGives g m e a → number_of a ≡ number_of (asked e)
    unfolding enabled_of
    enabled-number e a c = ap number_of (enabled-said g m e a c)

    the_step : (e : ℕ) (r : Stepped) → StepGives g m e r → r.answer ≡ asked e
    unfolding enabled_of stepped_of
    the_step e r c = ap (λ (x : Stepped). x.answer) (step-said g m e r c)

    pub step-number_lem : (e : ℕ) (r : Stepped) → StepGives g m e r → number_of r.answer ≡ number_of (asked e)
    step-number_lem e r c = ap number_of (the_step e r c)

    -- the step on a lent marking answers as the step by value does
    pub execute-number : (e : ℕ) (a : Answer) (n : Marking) → ExecuteGives g m e a n → number_of a ≡ number_of (asked e)
    unfolding enabled_of stepped_of
    execute-number e a n c = ap (λ (x : Stepped). number_of x.answer) (execute-said g m e a n c)

    the-verdict : (r : Verdict) → AcceptingGives g m r → r.answer ≡ judged_with g m
    unfolding accepting_of
    the-verdict r c = ap (λ (x : Verdict). x.answer) (accepting-said g m r c)

    pub accepting-number : (r : Verdict) → AcceptingGives g m r → number_of r.answer ≡ number_of (judged_with g m)
    accepting-number r c = ap number_of (the-verdict r c)

  pub replay-number_lem : (σ : List ℕ) (r : Replayed) → ReplayGives g σ r
      → number_of r.answer ≡ number_of (then_ask (judged_for g (length σ)) (replay_from g.head.events (relations_of g) g.head.opening.state 0 σ).answer)
  unfolding replay_of
  replay-number_lem σ r c = ap (λ (x : Replayed). number_of x.answer) (replay-said g σ r c) ∙ ap number_of (within (is_done (judged_for g (length σ))))
    where
      within : (t : Bool)
          → (when t then replay_from g.head.events (relations_of g) g.head.opening.state 0 σ else ending (judged_for g (length σ)) 0 empty_marking false).answer
          ≡ when t then (replay_from g.head.events (relations_of g) g.head.opening.state 0 σ).answer else judged_for g (length σ)
      within true = refl
      within false = refl

-- ---- what a refusal leaves: nothing beside the number, and what was lent as it was

module _ (bytes : List ℕ) where
  pub log-nothing : (r : Judged) → JudgeLogGives bytes r → Refused r.answer → (r.activities ≡ 0) × (r.traces ≡ 0)
  log-nothing r c n =
      let e = judge-log-said bytes r c ∙ judged-refused bytes (ap is_done (sym (the-log bytes r c)) ∙ n) in
      (ap (λ (x : Judged). x.activities) e, ap (λ (x : Judged). x.traces) e)

  pub mine-nothing : (p : Profile) (r : Mined) → MineGives bytes p r → Refused r.answer → r.graph ≡ empty_graph
  mine-nothing p r c n =
      ap (λ (x : Mined). x.graph) (mine-said bytes p r c) ∙ mined-nothing bytes p (ap is_done (sym (the-mined bytes p r c)) ∙ n)

  pub read-nothing : (r : Reading) → ReadGives bytes r → Refused r.answer → r.graph ≡ empty_graph
  unfolding read_of
  read-nothing r c n =
      ap (λ (x : Reading). x.graph) (read-said bytes r c)
      ∙ ap (λ (t : Bool). when t then graph_in bytes else empty_graph) (ap is_done (sym (the-read bytes r c)) ∙ n)

  module _ (k : ℕ) where
    pub trace-nothing : (r : Found) → FindTraceGives bytes k r → Refused r.answer → (r.start ≡ 0) × (r.length ≡ 0)
    unfolding found_of
    trace-nothing r c n =
        let h = find-trace-said bytes k r c in
        let refused = ap is_done (sym (found-answer bytes k)) ∙ ap (λ (x : Found). is_done x.answer) (sym h) ∙ n in
        let there : Found = found_as Done (record { start = start_at bytes k; length = length_at bytes k }) in
        let e = h ∙ ap (λ (t : Bool). when t then there else found_as (finding_of bytes k) no_part) refused in
        (ap (λ (x : Found). x.start) e, ap (λ (x : Found). x.length) e)

    -- a reader's next trace stays the same
    pub next-stays : (next : ℕ) (r : Asked) → AskGives bytes k next r → Refused r.found.answer → r.next ≡ next
    unfolding asked_of
    next-stays next r c n =
        let h = ask-said bytes k next r c in
        ap (λ (x : Asked). x.next) h
        ∙ ap (λ (t : Bool). when t then k + 1 else next)
        (ap is_done (sym (found-answer bytes k)) ∙ ap (λ (x : Asked). is_done x.found.answer) (sym h) ∙ n)

module _ (g : Graph) (m : Marking) where
  stays : (e : ℕ) (r : Stepped) → r ≡ stepped_of g m e → Refused r.answer → r.marking ≡ m
  unfolding stepped_of
  stays e r h n =
      ap (λ (x : Stepped). x.marking) h
      ∙ ap (λ (t : Bool). when t then next_marking g m e else m) (ap (λ (x : Stepped). is_done x.answer) (sym h) ∙ n)

  -- the marking is as it was
  pub step_stays : (e : ℕ) (r : Stepped) → StepGives g m e r → Refused r.answer → r.marking ≡ m
  step_stays e r c n = stays e r (step-said g m e r c) n

  -- and so is the one that is lent
  pub execute-stays : (e : ℕ) (a : Answer) (n : Marking) → ExecuteGives g m e a n → Refused a → n ≡ m
  execute-stays e a n c x = stays e (record { answer = a; marking = n }) (execute-said g m e a n c) x

  pub accepting-no : (r : Verdict) → AcceptingGives g m r → Refused r.answer → r.accepting ≡ false
  unfolding accepting_of ◌and◌
  accepting-no r c n =
      ap (λ (x : Verdict). x.accepting) (accepting-said g m r c)
      ∙ ap (λ (t : Bool). t and accepting m.state) (ap is_done (sym (the-verdict g m r c)) ∙ n)

module _ (g : Graph) where
  -- no byte of the buffer is changed
  pub write-stays : (before after : List ℕ) (w : Written) → WriteGives g before w after → Refused w.answer → (w.length ≡ 0) × (after ≡ before)
  unfolding written_of file_after
  write-stays before after w c n =
      let h = write-said g before w after c in
      let refused : is_done (judged_write g (length before)) ≡ false = ap (λ (x : Written). is_done x.answer) (sym h.0) ∙ n in (
        ap (λ (x : Written). x.length) h.0 ∙ ap (λ (t : Bool). when t then length (bytes_of g) else 0) refused,
        h.1 ∙ ap (λ (t : Bool). when t then bytes_of g ++ drop (length (bytes_of g)) before else before) refused,
      )

  -- refused with 3, 5 or 16, a replay gives place 0, the empty marking, and no for accepting
  pub replay-nothing : (σ : List ℕ) (r : Replayed) → ReplayGives g σ r → (number_of r.answer ≡ 3) ⊎ ((number_of r.answer ≡ 5) ⊎ (number_of r.answer ≡ 16))
      → r ≡ ending r.answer 0 empty_marking false
  replay-nothing σ r c x = early-nothing g σ r (replay-said g σ r c) x

-- ================ DEMAND 2

-- ---- the mined graph is, pair for pair, the one that the rules give, in either profile

module _ (bytes : List ℕ) (p : Profile) (r : Mined) (c : MineGives bytes p r) (d : number_of r.answer ≡ 0) where
  pub mine-graph : r.graph ≡ mined_graph (log_of bytes).activities (log_of bytes).traces p
  mine-graph = ap (λ (x : Mined). x.graph) (mine-said bytes p r c) ∙ mined-graph_lem bytes p (sym (the-mined bytes p r c) ∙ done-by _ d)

  pub mine-pairs : PairForPair (log_of bytes).activities (log_of bytes).traces (mined (log_of bytes).traces p) r.graph
  mine-pairs =
      subst (PairForPair (log_of bytes).activities (log_of bytes).traces (mined (log_of bytes).traces p)) (sym mine-graph)
      (pairs (log_of bytes).activities (log_of bytes).traces (file-accepted bytes) p)

-- ---- the bit-set engine answers as the set rules do, for a graph and a marking that are not refused

module _ (g : Graph) (m : Marking) (ok : number_of (judged_with g m) ≡ 0) where
  pub enabled-rules : (e : ℕ) (a : Answer) → EnabledGives g m e a → number_of a ≡ number_of (enabled g.head.events (relations_of g) m.state e)
  enabled-rules e a c =
      enabled-number g m e a c ∙ ap (λ (x : Answer). number_of (then_ask x (enabled g.head.events (relations_of g) m.state e))) (done-by (judged_with g m) ok)

  pub accepting-rules : (r : Verdict) → AcceptingGives g m r → r.accepting ≡ accepting m.state
  unfolding accepting_of ◌and◌
  accepting-rules r c = ap (λ (x : Verdict). x.accepting) (accepting-said g m r c) ∙ ap (λ (x : Answer). is_done x and accepting m.state) (done-by (judged_with g m) ok)

module _ (g : Graph) (m : Marking) (e : ℕ) where
  moves : (r : Stepped) → r ≡ stepped_of g m e → number_of r.answer ≡ 0 → Stepping (relations_of g) m.state e r.marking.state
  unfolding stepped_of after
  moves r h d =
      let done : is_done (stepped_of g m e).answer ≡ true = ap (λ (x : Stepped). is_done x.answer) (sym h) ∙ ap (λ (n : ℕ). eqb n 0) d in
      subst (λ (n : Marking). Stepping (relations_of g) m.state e n.state)
      (sym (ap (λ (x : Stepped). x.marking) h ∙ ap (λ (t : Bool). when t then next_marking g m e else m) done))
      (record { executed = λ a l. mem-those _ a l; pending = λ a l. mem-those _ a l; included = λ a l. mem-those _ a l })

  -- a step that is done
  pub step-rules : (r : Stepped) → StepGives g m e r → number_of r.answer ≡ 0 → Stepping (relations_of g) m.state e r.marking.state
  step-rules r c d = moves r (step-said g m e r c) d

  -- and one on a lent marking
  pub execute-rules : (a : Answer) (n : Marking) → ExecuteGives g m e a n → number_of a ≡ 0 → Stepping (relations_of g) m.state e n.state
  execute-rules a n c d = moves (record { answer = a; marking = n }) (execute-said g m e a n c) d

-- and it replays step for step: to the first refusal, or through
module _ (g : Graph) (σ : List ℕ) (ok : number_of (judged_for g (length σ)) ≡ 0) (r : Replayed) (c : ReplayGives g σ r) where
  pub replay-stops : Refused r.answer → StopsAt g.head.events (relations_of g) g.head.opening.state σ r
  replay-stops = stops_at g.head.events (relations_of g) g.head.opening.state σ r (replay-runs g σ r (replay-said g σ r c) (done-by _ ok))

  pub replay-through : number_of r.answer ≡ 0 → GoesThrough g.head.events (relations_of g) g.head.opening.state σ r
  replay-through d = goes_through g.head.events (relations_of g) g.head.opening.state σ r (replay-runs g σ r (replay-said g σ r c) (done-by _ ok)) (done-by _ d)

-- ---- files and graphs go round without a change

-- a graph written and read again is that graph; and the buffer is the write's
pub graph-returns : (g : Graph) (before : List ℕ) (r : Reading) (after : List ℕ) → GraphBackGives g before r after → number_of r.answer ≡ 0
    → (r.graph ≡ g) × (after ≡ file_after g before)
unfolding graph_back
graph-returns g before r after c d =
    let h = graph-back-said g before r after c in
    let done : is_done (judged_write g (length before)) ≡ true = ap (λ (x : Reading). is_done x.answer) (sym h.0) ∙ ap (λ (n : ℕ). eqb n 0) d in
    (ap (λ (x : Reading). x.graph) h.0 ∙ ap (λ (t : Bool). when t then g else empty_graph) done, h.1)

-- an accepted file read and written again is that file, then what was there
pub file-returns : (file before : List ℕ) (w : Written) (after : List ℕ) → FileBackGives file before w after → number_of w.answer ≡ 0
    → (w.length ≡ length file) × (after ≡ file ++ drop (length file) before)
unfolding file_back file_copied
file-returns file before w after c d =
    let h = file-back-said file before w after c in
    let done : is_done (judged_copy file (length before)) ≡ true = ap (λ (x : Written). is_done x.answer) (sym h.0) ∙ ap (λ (n : ℕ). eqb n 0) d in (
      ap (λ (x : Written). x.length) h.0 ∙ ap (λ (t : Bool). when t then length file else 0) done,
      h.1 ∙ ap (λ (t : Bool). when t then file ++ drop (length file) before else before) done,
    )

-- the same of `read` and `write` themselves (`Machine` and `Bytes` say that numbers fit their places in memory, which the functions
-- above show of what they are passed)
pub graph-round : (g : Graph) (before after : List ℕ) (w : Written) (r : Reading)
    → Machine g → judged g ≡ Done → length (bytes_of g) ≤ length before
    → WriteGives g before w after → ReadGives (take w.length after) r
    → r ≡ record { answer = Done; graph = g }
graph-round g before after w r fits ok room cw cr =
    let h = write-said g before w after cw in written-then-read g before after w r fits ok room h.0 h.1 (read-said _ r cr)

pub file-round : (bytes before after : List ℕ) (r : Reading) (w : Written)
    → Bytes bytes → ReadGives bytes r → number_of r.answer ≡ 0 → length bytes ≤ length before
    → WriteGives r.graph before w after
    → (w ≡ record { answer = Done; length = length bytes }) × (after ≡ bytes ++ drop (length bytes) before)
file-round bytes before after r w fits cr d room cw =
    let h = write-said r.graph before w after cw in
    read-then-written bytes before after r w fits (read-said bytes r cr) (done-by _ d) room h.0 h.1

-- ================ DEMAND 3

-- Every trace of an accepted log, and the empty one, replays on its mined graph, in either profile: done, at its length, with no step
-- pending at all, and accepting. (A refused log has no trace.)

module _ (bytes : List ℕ) (p : Profile) (k : ℕ) (l : k < length (log_of bytes).traces) where
  -- `mine`, then `replay`
  module _ (m : Mined) (r : Replayed) (cm : MineGives bytes p m) (cr : ReplayGives m.graph (trace_of bytes k) r) where
    pub own-traces : Settles (length (trace_of bytes k)) r
    own-traces =
        let t = own-through bytes p k m r (mine-said bytes p m cm) l (replay-said _ _ r cr) in
        record { done = ap number_of t.done; whole = t.whole; settled = t.settled; accepted = t.accepted }

    -- with every event enabled in its turn
    pub own-turns : InTurn m.graph.head.events (relations_of m.graph) m.graph.head.opening.state (trace_of bytes k)
    own-turns =
        let ok : judged m.graph ≡ Done = ap (λ (x : Mined). judged x.graph) (mine-said bytes p m cm) ∙ mined-judged bytes p in
        let long = judged-for_lem m.graph ok (length (trace_of bytes k)) ((read-within bytes).lengths k l) in
        (replay-through m.graph (trace_of bytes k) (ap number_of long) r cr own-traces.done).in-turn

  -- `replay_own`, which does all of it
  pub own-replay_lem : (r : Replayed) → ReplayOwnGives bytes p k r → Settles (length (trace_of bytes k)) r
  own-replay_lem r c =
      let h = replay-own-said bytes p k r c in
      let found = finds bytes k l in
      record { done = ap number_of (h.1.0 ∙ found); whole = h.1.1.0; settled = h.1.1.1.0; accepted = h.1.1.1.1 ∙ ap is_done found }

-- the empty trace, on the graph of any bytes: the opening marking is accepting
module _ (bytes : List ℕ) (p : Profile) where
  none-settles : (r : Replayed) → r ≡ ending Done 0 (mined_of bytes p).graph.head.opening true → Settles 0 r
  none-settles r h =
      record {
        done = ap (λ (x : Replayed). number_of x.answer) h;
        whole = ap (λ (x : Replayed). x.place.0) h;
        settled = ap (λ (x : Replayed). x.marking.state.pending) h ∙ mined-pending bytes p;
        accepted = ap (λ (x : Replayed). x.accepting) h;
      }

  pub own-empty : (m : Mined) (r : Replayed) → MineGives bytes p m → ReplayGives m.graph [] r → Settles 0 r
  own-empty m r cm cr = none-settles r (none-through bytes p m r (mine-said bytes p m cm) (replay-said _ _ r cr))

  pub own-none : (r : Replayed) → ReplayNoneGives bytes p r → Settles 0 r
  own-none r c = none-settles r (replay-none-said bytes p r c)

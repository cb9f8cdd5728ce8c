-- The stand-ins that 01 names, each shut out by the contract of the function that it stands in for ("How much each statement says"): no
-- function that behaves so keeps the contract for every input. Log L and its graph G are those of 01. The fifth, a listing with invented
-- counts, is in Counts. Assumes nothing.
use mathlib.Core.Path.{◌≡◌, refl, sym, ap, ◌∙◌}
use mathlib.Core.Bool.{Bool, true, false}
use mathlib.Core.List.{List, [], ◌∷◌}
use Prim.Native.Nat.{ℕ, ◌+◌, ◌≤◌}
use lib.Dec.{lit≤}
use native.Mathlib.Nat.{add-zero}
use lib.ListN.{length}
use Rattle.sets.specs.Tests.{◌and◌, ◌or◌, non, when◌then◌else◌}
use Rattle.sets.specs.Members.{mem, those, bit, bits_of, some_below}
use Rattle.sets.specs.Rows.{row_at, in_row, list_from, rows_of}
use Rattle.sets.specs.Tables.{table_at, tables_of}
use Rattle.sets.specs.Answers.{is_done}
use Rattle.sets.specs.declared.answer.Answer.TheVariants.{Done, NotIncluded}
use Rattle.sets.proofs.Tests.{true→T, false→F}
use Rattle.sets.proofs.Asking.{done-is}
use Rattle.sets.specs.declared.answer.Answer.{Answer}
use Rattle.engine.specs.Relations.{empty_graph, relations_of}
use Rattle.engine.specs.Steps.{waits, enabled, after, accepting}
use Rattle.engine.proofs.Acceptable.{replay-judged}
use Rattle.sets.specs.Sizes.{longest_trace}
use Rattle.engine.specs.Replay.{stepped_of, ending, replay_from, replay_of}
use Rattle.engine.specs.declared.marking.Marking.{Marking}
use Rattle.engine.specs.declared.graph.Graph.{Graph}
use Rattle.engine.specs.declared.step.Stepped.{Stepped}
use Rattle.engine.specs.declared.replay.Replayed.{Replayed}
use Rattle.engine.proofs.Examples.{table3, examples}
use Rattle.calllog.specs.Logs.{Log}
use Rattle.calllog.proofs.Examples.{log_l, traces_l, reads-L}
use Rattle.rules.specs.Traces.{◌has◌, ◌begins_with◌, at_each_from, at_some_from, every_trace, some_trace}
use Rattle.rules.specs.Mining.{no_pair, no_relations, smallest_source, ◌without◌, event, some_event, ◌with◌, at_most_once, precedes, answers, chained, together, before, followed, between, alternates, before_first, step1, step2, directly_before, step3, never_together, step4, closes, step5, step6, let_in_between, makes_redundant, step7, reduced, step8, included_after, never_missed, step9, step10, after_five, after_six, after_seven, after_eight, mined}
use Rattle.rules.specs.declared.Profile.TheVariants.{Full}
use Rattle.rules.specs.Mined.{graph_from, mined_graph}
use Rattle.rules.proofs.Cases.{G, judged-G}
use Rattle.miner.specs.Mine.{mined_of}
use Rattle.miner.specs.declared.mining.Mined.{Mined}
use Rattle.promises.specs.Demanded.{Refused}
use Rattle.promises.proofs.Contracts.{MineGives, mine-said, ExecuteGives, execute-said, ReplayGives, replay-said}

-- ---- what the statement of `mine` says of log L

graph-L : mined_graph 3 traces_l Full ≡ G
unfolding traces_l G
    ◌and◌ ◌or◌ non bit mem those bits_of some_below list_from rows_of tables_of
    ◌has◌ ◌begins_with◌ at_each_from at_some_from every_trace some_trace
    no_pair no_relations smallest_source ◌without◌ event some_event ◌with◌ at_most_once precedes answers chained together before followed between alternates before_first
    step1 step2 directly_before step3 never_together step4 closes step5 step6 let_in_between makes_redundant step7 reduced step8 included_after never_missed step9 step10
    after_five after_six after_seven after_eight mined graph_from mined_graph
graph-L = refl

pub mine-L : (r : Mined) → MineGives log_l Full r → r ≡ record { answer = Done; graph = G }
unfolding mined_of
mine-L r c =
    mine-said log_l Full r c
    ∙ ap {B = Mined} (λ (l : Log). record { answer = l.answer; graph = when is_done l.answer then mined_graph l.activities l.traces Full else empty_graph }) reads-L
    ∙ ap {B = Mined} (λ (g : Graph). record { answer = Done; graph = g }) graph-L

-- ---- 1. a miner that refuses all

pub refuses-all : (f : List ℕ → Mined) → ((bytes : List ℕ) → Refused (f bytes).answer) → ((bytes : List ℕ) → MineGives bytes Full (f bytes)) → ⊥
refuses-all f refuses meets =
    false→F (refuses log_l) (true→T (ap (λ (r : Mined). is_done r.answer) (mine-L (f log_l) (meets log_l))))

-- ---- 2. a miner that gives a graph without relations: G has the condition 0 to 1

waits-in-G : (relations_of G).conditions 0 1 ≡ true
unfolding G list_from in_row row_at table_at mem bit
waits-in-G = refl

pub no-relations_lem : (f : List ℕ → Mined) → ((bytes : List ℕ) (s t : ℕ) → (relations_of (f bytes).graph).conditions s t ≡ false)
    → ((bytes : List ℕ) → MineGives bytes Full (f bytes)) → ⊥
no-relations_lem f none meets =
    false→F (none log_l 0 1) (true→T (ap (λ (r : Mined). (relations_of r.graph).conditions 0 1) (mine-L (f log_l) (meets log_l)) ∙ waits-in-G))

-- ---- 3. an execute that changes nothing: Table 3 of the source paper has a step that is done, of event 4

abbrev start : Marking
start = table3.head.opening

table-steps : (mem start.state.executed 4 ≡ false) × (mem (stepped_of table3 start 4).marking.state.executed 4 ≡ true)
unfolding bit mem those bits_of
table-steps = (refl, ap (λ (r : Stepped). mem r.marking.state.executed 4) examples.0)

pub changes-nothing : (f : Graph → Marking → ℕ → Answer) → ((g : Graph) (m : Marking) (e : ℕ) → ExecuteGives g m e (f g m e) m) → ⊥
changes-nothing f meets =
    let same = execute-said table3 start 4 _ start (meets table3 start 4) in
    false→F table-steps.0 (true→T (ap (λ (r : Stepped). mem r.marking.state.executed 4) same ∙ table-steps.1))

-- ---- 4. a replay that works at the first event and then only moves on: to the end of the trace, with the marking as it is

unfoldable pub onward : Replayed → ℕ → Replayed
onward r n = when is_done r.answer then ending Done (r.place.0 + n) r.marking r.accepting else r

unfoldable pub moves_on : Graph → List ℕ → Replayed
moves_on g [] = replay_of g []
moves_on g (e ∷ es) = onward (replay_of g (e ∷ [])) (length es)

-- it does work at the first event
pub first-works : (g : Graph) (e : ℕ) → moves_on g (e ∷ []) ≡ replay_of g (e ∷ [])
unfolding moves_on onward
first-works g e = by (replay_of g (e ∷ [])) (is_done (replay_of g (e ∷ [])).answer) refl
  where
    by : (r : Replayed) (t : Bool) → is_done r.answer ≡ t → (when is_done r.answer then ending Done (r.place.0 + 0) r.marking r.accepting else r) ≡ r
    by r true y =
        ap (λ (t : Bool). when t then ending Done (r.place.0 + 0) r.marking r.accepting else r) y
        ∙ (λ i. record { answer = sym (done-is r.answer y) i; place = record { 0 = add-zero r.place.0 i }; marking = r.marking; accepting = r.accepting })
    by r false n = ap (λ (t : Bool). when t then ending Done (r.place.0 + 0) r.marking r.accepting else r) n

once-on-G : (σ : List ℕ) → length σ ≤ longest_trace → replay_of G σ ≡ replay_from G.head.events (relations_of G) G.head.opening.state 0 σ
once-on-G σ l = replay-judged G judged-G σ l

-- on G, 0 is enabled once: ⟨0⟩ is done, and ⟨0,0⟩ is refused with 9
on-G : ((replay_of G (0 ∷ [])).answer ≡ Done) × ((replay_of G (0 ∷ 0 ∷ [])).answer ≡ NotIncluded)
unfolding G list_from ◌and◌ ◌or◌ non bit mem those bits_of some_below row_at table_at in_row waits enabled after accepting replay_from
on-G = (ap (λ (r : Replayed). r.answer) (once-on-G (0 ∷ []) (lit≤ tt)), ap (λ (r : Replayed). r.answer) (once-on-G (0 ∷ 0 ∷ []) (lit≤ tt)))

pub only-moves-on : ((g : Graph) (σ : List ℕ) → ReplayGives g σ (moves_on g σ)) → ⊥
unfolding moves_on onward
only-moves-on meets =
    let first : Replayed = replay_of G (0 ∷ []) in
    let still : is_done (moves_on G (0 ∷ 0 ∷ [])).answer ≡ true =
    ap (λ (t : Bool). is_done (when t then ending Done (first.place.0 + 1) first.marking first.accepting else first).answer) (ap is_done on-G.0) in
    false→F (ap (λ (r : Replayed). is_done r.answer) (replay-said G _ _ (meets G (0 ∷ 0 ∷ []))) ∙ ap is_done on-G.1) (true→T still)

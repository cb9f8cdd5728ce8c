-- Demand 3 carried to the code, in either profile: what `mine` gives, and the replay of the log's own traces on it. Assumes nothing.
use mathlib.Core.Path.{◌≡◌, refl, sym, ap, subst, ◌∙◌}
use mathlib.Core.Bool.{Bool, true, false}
use mathlib.Core.List.{List, []}
use Prim.Native.Nat.{ℕ, ◌+◌, ◌-◌, ◌≤◌, ◌<◌}
use native.Mathlib.Omega.{arith}
use borrow.Author.Tests.{lt-ltb, ltb-true, ltb-false}
use lib.Dec.{ltb}
use lib.ListN.{length, take, drop, get_or-eq_default}
use Rattle.sets.specs.Tests.{◌and◌, ◌or◌, non, when◌then◌else◌}
use Rattle.sets.specs.Members.{bit, bits_of, some_below, mem, those}
use Rattle.sets.specs.Answers.{is_done}
use Rattle.sets.specs.declared.answer.Answer.{Answer}
use Rattle.sets.specs.declared.answer.Answer.TheVariants.{Done}
use Rattle.sets.proofs.Tests.{T→true, F→false, split, either, true→T, false→F}
use Rattle.sets.proofs.Asking.{done-is}
use Rattle.engine.specs.Markings.{empty_marking}
use Rattle.sets.specs.Members.{no_set}
use Rattle.engine.specs.Relations.{relations_of, empty_graph}
use Rattle.engine.specs.Steps.{enabled, accepting}
use Rattle.engine.specs.Judged.{judged}
use Rattle.engine.specs.Enabled.{enabled_set, marked}
use Rattle.engine.specs.Replay.{ending, replay_from, replay_of}
use Rattle.engine.specs.declared.graph.Graph.{Graph}
use Rattle.engine.specs.declared.replay.Replayed.{Replayed}
use Rattle.engine.proofs.Acceptable.{replay-judged, empty-judged}
use Rattle.calllog.specs.Layout.{traces_in}
use Rattle.calllog.specs.Judged.{judged_log}
use Rattle.calllog.specs.Logs.{log_of, finding_of, found_of}
use Rattle.calllog.specs.declared.trace.Found.{Found}
use Rattle.calllog.proofs.Finding.{found-answer, found_below}
use Rattle.calllog.proofs.Traces.{traces-number, trace-accepted, found-trace}
use Rattle.rules.specs.Mined.{graph_from, mined_graph}
use Rattle.rules.proofs.Acceptable.{acceptable}
use Rattle.rules.specs.declared.Profile.{Profile}
use Rattle.rules.proofs.Demand3.{Through}
use Rattle.rules.proofs.FromFile.{file-accepted, demand3-file}
use Rattle.miner.specs.Mine.{mined_of}
use Rattle.miner.proofs.Given.{mined-graph_lem, mined-nothing}
use Rattle.miner.specs.declared.mining.Mined.{Mined}
use Rattle.promises.specs.Promised.{trace_of, own_replay, OwnReplayed}

-- ---- what the miner gives

-- nothing is pending at its opening
pub mined-pending : (bytes : List ℕ) (p : Profile) → (mined_of bytes p).graph.head.opening.state.pending ≡ no_set
unfolding mined_graph graph_from
mined-pending bytes p =
    either (split (is_done (judged_log bytes)))
    (λ y. ap (λ (g : Graph). g.head.opening.state.pending) (mined-graph_lem bytes p (done-is _ (T→true _ y))))
    (λ n. ap (λ (g : Graph). g.head.opening.state.pending) (mined-nothing bytes p (F→false _ n)))

-- ---- the traces of a log

module _ (bytes : List ℕ) (k : ℕ) where
  -- a trace of the log is found
  pub finds : k < length (log_of bytes).traces → finding_of bytes k ≡ Done
  unfolding finding_of
  finds l =
      let d = trace-accepted bytes k l in
      let h : k < traces_in bytes = omega (arith, traces-number bytes d) in
      rw (d, lt-ltb k (traces_in bytes) h)

  -- what is found is a trace of the log
  pub finds-below : finding_of bytes k ≡ Done → k < length (log_of bytes).traces
  finds-below y = let b = found_below bytes k y in omega (arith, traces-number bytes b.0, b.1)

  -- where none is found there is none
  finds-nothing : is_done (finding_of bytes k) ≡ false → trace_of bytes k ≡ []
  finds-nothing n =
      either (split (ltb k (length (log_of bytes).traces)))
      (λ l. absurd (false→F n (true→T (ap is_done (finds (ltb-true _ _ (T→true _ l)))))))
      (λ g. get_or-eq_default (log_of bytes).traces [] (ltb-false _ _ (F→false _ g)))

-- DEMAND 3, of every result that the statements of `mine` and `replay` allow
pub own-through : (bytes : List ℕ) (p : Profile) (k : ℕ) (m : Mined) (r : Replayed) → m ≡ mined_of bytes p → k < length (log_of bytes).traces
    → r ≡ replay_of m.graph (trace_of bytes k) → Through (length (trace_of bytes k)) r
own-through bytes p k m r hm l hr =
    let same : r ≡ replay_of (mined_graph (log_of bytes).activities (log_of bytes).traces p) (trace_of bytes k) =
    hr ∙ ap (λ (x : Mined). replay_of x.graph (trace_of bytes k)) hm ∙ ap (λ (g : Graph). replay_of g (trace_of bytes k)) (mined-graph_lem bytes p (trace-accepted bytes k l)) in
    let d = (demand3-file bytes p).each k l in
    record {
      done = ap (λ (x : Replayed). x.answer) same ∙ d.done;
      whole = ap (λ (x : Replayed). x.place.0) same ∙ d.whole;
      settled = ap (λ (x : Replayed). x.marking.state.pending) same ∙ d.settled;
      accepted = ap (λ (x : Replayed). x.accepting) same ∙ d.accepted;
    }

-- ---- `replay_own`: its statement

module _ (log : List ℕ) (k : ℕ) (f : Found) (t : Bool) (hf : f ≡ found_of log k) (ht : t ≡ is_done f.answer) where
  the-answer : f.answer ≡ finding_of log k
  the-answer = ap (λ (x : Found). x.answer) hf ∙ found-answer log k

  pub own-refused : (p : Profile) → t ≡ false → OwnReplayed log p k (ending f.answer 0 empty_marking false)
  unfolding own_replay
  own-refused p n =
      let refused : is_done (finding_of log k) ≡ false = ap is_done (sym the-answer) ∙ sym ht ∙ n in (
        ap (λ (a : Answer). ending a 0 empty_marking false) the-answer
            ∙ sym (ap (λ (b : Bool). when b then replay_of (mined_of log p).graph (trace_of log k) else ending (finding_of log k) 0 empty_marking false) refused),
        (the-answer, (ap length (sym (finds-nothing log k refused)), (refl, sym refused))),
      )

  module _ (y : t ≡ true) where
    was-found : f.answer ≡ Done
    was-found = done-is f.answer (sym ht ∙ y)

    pub own-within : f.start + f.length ≤ length log
    own-within = (found-trace log k f hf was-found).0

    pub own-done : (p : Profile) (m : Mined) (r : Replayed) → m ≡ mined_of log p → r ≡ replay_of m.graph (take (f.start + f.length - f.start) (drop f.start log)) → OwnReplayed log p k r
    unfolding own_replay
    own-done p m r hm hr =
        let n : f.start + f.length - f.start ≡ f.length = omega arith in
        let finding : finding_of log k ≡ Done = sym the-answer ∙ was-found in
        let trace : take (f.start + f.length - f.start) (drop f.start log) ≡ trace_of log k =
        ap (λ (i : ℕ). take i (drop f.start log)) n ∙ (found-trace log k f hf was-found).1 in
        let same : r ≡ replay_of m.graph (trace_of log k) = hr ∙ ap (replay_of m.graph) trace in
        let d = own-through log p k m r hm (finds-below log k finding) same in (
          same
              ∙ ap (λ (x : Mined). replay_of x.graph (trace_of log k)) hm
              ∙ sym (ap (λ (a : Answer). when is_done a then replay_of (mined_of log p).graph (trace_of log k) else ending a 0 empty_marking false) finding),
          (d.done ∙ sym finding, (d.whole, (d.settled, d.accepted ∙ ap is_done (sym finding)))),
        )

-- ---- `replay_none`: the empty trace

abbrev Opens : Graph → Type 0
Opens g = replay_of g [] ≡ ending Done 0 g.head.opening true

-- a graph that is taken, with its opening marking accepting
opens : (g : Graph) → judged g ≡ Done → marked g.head.events (relations_of g) g.head.opening.state ≡ g.head.opening
    → accepting g.head.opening.state ≡ true → Opens g
unfolding replay_from
opens g ok o a = replay-judged g ok [] (omega arith) ∙ (λ i. ending Done 0 (o i) (a i))

mined-opens : (bytes : List ℕ) (p : Profile) → Opens (mined_graph (log_of bytes).activities (log_of bytes).traces p)
unfolding mined_graph graph_from replay_from
mined-opens bytes p =
    let g : Graph = mined_graph (log_of bytes).activities (log_of bytes).traces p in
    let ok : judged g ≡ Done = acceptable _ _ (file-accepted bytes) p in
    opens g ok refl (ap (λ (r : Replayed). r.accepting) (sym (replay-judged g ok [] (omega arith))) ∙ (demand3-file bytes p).empty.accepted)

empty-opens : Opens empty_graph
unfolding enabled_set enabled accepting some_below bits_of bit mem those ◌and◌ ◌or◌ non
empty-opens = opens empty_graph empty-judged refl refl

pub none-through : (log : List ℕ) (p : Profile) (m : Mined) (r : Replayed) → m ≡ mined_of log p → r ≡ replay_of m.graph []
    → r ≡ ending Done 0 (mined_of log p).graph.head.opening true
none-through log p m r hm hr =
    hr
    ∙ ap (λ (x : Mined). replay_of x.graph []) hm
    ∙ either (split (is_done (judged_log log)))
    (λ y. subst Opens (sym (mined-graph_lem log p (done-is _ (T→true _ y)))) (mined-opens log p))
    (λ n. subst Opens (sym (mined-nothing log p (F→false _ n))) empty-opens)

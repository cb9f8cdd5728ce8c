-- The miner over the bytes of a log: its walk passes the log's traces, and what it gives is what the rules give. Assumes nothing.
use mathlib.Core.Path.{◌≡◌, refl, sym, ap, ap₂, ◌∙◌}
use mathlib.Core.Bool.{Bool, true, false}
use mathlib.Core.List.{List, [], ◌∷◌}
use Prim.Native.Nat.{ℕ, zero, suc, ◌+◌, ◌≤◌, ◌<◌}
use native.Mathlib.Omega.{arith}
use native.Mathlib.Nat.{add-suc, suc-add}
use lib.Dec.{ltb}
use lib.ListN.{length, drop, drop_of_length-le}
use lib.Seq.{drop-cons}
use Rattle.sets.specs.Answers.{is_done}
use Rattle.sets.specs.Members.{word}
use Rattle.sets.proofs.Ways.{taken, passed-by}
use Rattle.engine.specs.Relations.{empty_graph}
use Rattle.engine.specs.declared.graph.Graph.{Graph}
use Rattle.engine.specs.declared.graph.Head.{Head}
use Rattle.calllog.specs.declared.judge.Judged.{Judged}
use Rattle.calllog.specs.Logs.{log_of, judged_of}
use Rattle.calllog.proofs.Traces.{part-trace}
use Rattle.rules.specs.declared.Profile.{Profile}
use Rattle.rules.specs.Traces.{Traces}
use Rattle.rules.specs.Mined.{mined_graph}
use Rattle.rules.proofs.Acceptable.{small}
use Rattle.rules.proofs.FromFile.{file-accepted}
use Rattle.tally.specs.Passes.{walked}
use Rattle.miner.specs.Stages.{graph_found_in}
use Rattle.miner.specs.Mine.{headed_of, mined_of}
use Rattle.miner.specs.declared.mining.Headed.{Headed}
use Rattle.miner.specs.declared.mining.Mined.{Mined}
use Rattle.miner.proofs.PairForPair.{pair-for-pair}
use Rattle.miner.proofs.AtEvents.{form-graph}

module _ (bytes : List ℕ) where
  abbrev L : Traces
  L = (log_of bytes).traces

  -- a walk passes the traces
  walk_from : (n k : ℕ) → k + n ≡ length L → walked bytes n k ≡ drop k L
  unfolding walked
  walk_from zero k e = let all : length L ≤ k = omega arith in sym (drop_of_length-le L all)
  walk_from (suc n) k e =
      let here : k < length L = omega (arith, add-suc k n) in
      ap₂ ◌∷◌ (part-trace bytes k _ here refl) (walk_from n (suc k) (suc-add k n ∙ sym (add-suc k n) ∙ e)) ∙ sym (drop-cons L k [] here)

  pub walk-all : walked bytes (length L) 0 ≡ L
  walk-all = walk_from (length L) 0 (omega arith)

-- the two ways of the code
module _ (bytes : List ℕ) (p : Profile) (j : Judged) (r : Bool) (hj : j ≡ judged_of bytes) (hr : r ≡ is_done j.answer) where
  abbrev found : Graph
  found = mined_graph (log_of bytes).activities (log_of bytes).traces p

  the-answer : j.answer ≡ (log_of bytes).answer
  the-answer = ap (λ (x : Judged). x.answer) hj

  is-done_lem : is_done (log_of bytes).answer ≡ r
  is-done_lem = ap is_done (sym the-answer) ∙ sym hr

  abbrev found_in : Graph
  found_in = graph_found_in (ltb word j.activities) j.activities (walked bytes j.traces 0) p

  refused : r ≡ false → ◌≡◌ {A = Mined} (record { answer = j.answer; graph = empty_graph }) (mined_of bytes p)
  unfolding mined_of
  refused n = λ i. record { answer = the-answer i; graph = passed-by _ found empty_graph empty_graph (sym (is-done_lem ∙ n)) refl i }

  done : r ≡ true → ◌≡◌ {A = Mined} (record { answer = j.answer; graph = found_in }) (mined_of bytes p)
  unfolding mined_of
  done n =
      let read =
      ap (λ (x : Judged). graph_found_in (ltb word x.activities) x.activities (walked bytes x.traces 0) p) hj
      ∙ ap (λ (L : Traces). graph_found_in (ltb word (log_of bytes).activities) (log_of bytes).activities L p) (walk-all bytes)
      ∙ form-graph (log_of bytes).activities (log_of bytes).traces (file-accepted bytes) p
      ∙ pair-for-pair (log_of bytes).traces (small _ _ (file-accepted bytes)) p (log_of bytes).activities in
      λ i. record { answer = the-answer i; graph = taken _ found empty_graph found_in (sym (is-done_lem ∙ n)) read i }

  abbrev headed : Mined → Headed
  headed m = record { answer = m.answer; head = m.graph.head }

  -- a graph is known by its head and its relations
  module _ (h : Head) (t : List ℕ) where
    pub head-refused : r ≡ false → h ≡ empty_graph.head → ◌≡◌ {A = Headed} (record { answer = j.answer; head = h }) (headed_of bytes p)
    head-refused n e = (λ i. record { answer = j.answer; head = e i }) ∙ ap headed (refused n)

    pub tables-refused : r ≡ false → t ≡ empty_graph.relations → t ≡ (mined_of bytes p).graph.relations
    tables-refused n e = e ∙ ap (λ (m : Mined). m.graph.relations) (refused n)

    pub head_done : r ≡ true → h ≡ found_in.head → ◌≡◌ {A = Headed} (record { answer = j.answer; head = h }) (headed_of bytes p)
    head_done n e = (λ i. record { answer = j.answer; head = e i }) ∙ ap headed (done n)

    pub tables-done : r ≡ true → t ≡ found_in.relations → t ≡ (mined_of bytes p).graph.relations
    tables-done n e = e ∙ ap (λ (m : Mined). m.graph.relations) (done n)

pub ruleset lent = (head-refused, tables-refused, head_done, tables-done)

-- a graph by value, from the head and the tables
pub whole_by : (bytes : List ℕ) (p : Profile) (m : Headed) (t : List ℕ) → m ≡ headed_of bytes p → t ≡ (mined_of bytes p).graph.relations
    → ◌≡◌ {A = Mined} (record { answer = m.answer; graph = record { head = m.head; relations = t } }) (mined_of bytes p)
whole_by bytes p m t hm ht = λ i. record { answer = (hm i).answer; graph = record { head = (hm i).head; relations = ht i } }

-- What `mine` gives: the log's answer, and a graph that is never refused. Assumes nothing.
use mathlib.Core.Path.{◌≡◌, ap, ◌∙◌}
use mathlib.Core.Bool.{Bool, false}
use mathlib.Core.List.{List}
use Prim.Native.Nat.{ℕ}
use Rattle.sets.specs.Tests.{when◌then◌else◌}
use Rattle.sets.specs.Answers.{is_done}
use Rattle.sets.specs.declared.answer.Answer.{Answer}
use Rattle.sets.specs.declared.answer.Answer.TheVariants.{Done}
use Rattle.sets.proofs.Tests.{T→true, F→false, split, either}
use Rattle.sets.proofs.Asking.{done-is}
use Rattle.engine.specs.Relations.{empty_graph}
use Rattle.engine.specs.Judged.{judged}
use Rattle.engine.proofs.Acceptable.{empty-judged}
use Rattle.calllog.specs.Judged.{judged_log}
use Rattle.calllog.specs.Logs.{log_of}
use Rattle.calllog.proofs.Given.{log-answer}
use Rattle.rules.specs.Mined.{mined_graph}
use Rattle.rules.specs.declared.Profile.{Profile}
use Rattle.rules.proofs.Acceptable.{acceptable}
use Rattle.rules.proofs.FromFile.{file-accepted}
use Rattle.miner.specs.Mine.{mined_of}

module _ (bytes : List ℕ) (p : Profile) where
  pub mined-answer : (mined_of bytes p).answer ≡ judged_log bytes
  unfolding mined_of
  mined-answer = log-answer bytes

  pub mined-graph_lem : judged_log bytes ≡ Done → (mined_of bytes p).graph ≡ mined_graph (log_of bytes).activities (log_of bytes).traces p
  unfolding mined_of
  mined-graph_lem d = ap (λ (a : Answer). when is_done a then mined_graph (log_of bytes).activities (log_of bytes).traces p else empty_graph) (log-answer bytes ∙ d)

  pub mined-nothing : is_done (judged_log bytes) ≡ false → (mined_of bytes p).graph ≡ empty_graph
  unfolding mined_of
  mined-nothing n =
      ap (λ (t : Bool). when t then mined_graph (log_of bytes).activities (log_of bytes).traces p else empty_graph) (ap is_done (log-answer bytes) ∙ n)

-- no graph that the miner gives is refused
pub mined-judged : (bytes : List ℕ) (p : Profile) → judged (mined_of bytes p).graph ≡ Done
mined-judged bytes p =
    either (split (is_done (judged_log bytes)))
    (λ y. ap judged (mined-graph_lem bytes p (done-is _ (T→true _ y))) ∙ acceptable _ _ (file-accepted bytes) p)
    (λ n. ap judged (mined-nothing bytes p (F→false _ n)) ∙ empty-judged)

-- 02, 12/12, "of the miner", from the contract of `mine`: two accepted logs with the same A and the same set of non-empty traces, in any order
-- and however often each is repeated, give the same graph in either profile. Assumes nothing.
use mathlib.Core.Path.{◌≡◌, sym, ap, ◌∙◌}
use mathlib.Core.List.{List, ◌++◌}
use Prim.Native.Nat.{ℕ}
use Rattle.sets.specs.Answers.{number_of}
use Rattle.sets.proofs.Tests.{either}
use Rattle.calllog.specs.Logs.{log_of}
use Rattle.rules.specs.declared.Profile.{Profile}
use Rattle.rules.specs.Traces.{Traces}
use Rattle.rules.specs.Mined.{mined_graph}
use Rattle.rules.proofs.SameTraces.{same_graph}
use Rattle.miner.specs.declared.mining.Mined.{Mined}
use Rattle.promises.specs.SameTraces.{SameTraces}
use Rattle.promises.proofs.Contracts.{MineGives}
use Rattle.promises.proofs.Demands.{mine-graph}
use Rattle.promises.proofs.Together.{of_one, of_other, of_either}

-- THE THEOREM
module _ (one other : List ℕ) (p : Profile) (r s : Mined) (cr : MineGives one p r) (cs : MineGives other p s) where
  pub same-calls : number_of r.answer ≡ 0 → number_of s.answer ≡ 0 → (log_of one).activities ≡ (log_of other).activities
      → SameTraces (log_of one).traces (log_of other).traces → r.graph ≡ s.graph
  same-calls dr ds a same =
      mine-graph one p r cr dr
      ∙ same_graph (log_of one).traces (log_of other).traces same.there same.back (log_of one).activities p
      ∙ ap (λ (A : ℕ). mined_graph A (log_of other).traces p) a
      ∙ sym (mine-graph other p s cs ds)

-- ---- which traces are the same set: in any order, repeated, with empty ones between

module _ (L M : Traces) where
  pub any_order : SameTraces (L ++ M) (M ++ L)
  any_order =
      record {
        there = λ x σ m. either (of_either L M m) (of_other M L) (of_one M L);
        back = λ x σ m. either (of_either M L m) (of_other L M) (of_one L M);
      }

pub repeated : (L : Traces) → SameTraces (L ++ L) L
repeated L =
    record {
      there = λ x σ m. either (of_either L L m) (λ a. a) (λ a. a);
      back = λ x σ m. of_one L L m;
    }

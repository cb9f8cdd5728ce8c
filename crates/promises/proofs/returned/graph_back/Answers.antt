use borrow.Author.Rules.{rules}
use mir.Syntax.{w64}
use mir.Val.{Fits}
use Prim.Native.Nat.{ℕ, ◌^◌, ◌<◌}
use lib.ListN.{get_or}
use Rattle.sets.specs.Members.{word}
use Rattle.sets.proofs.Members.{those-mem}
use Rattle.sets.proofs.TableLaws.{table-whole}
use Rattle.graphfile.proofs.GraphFile.{Machine}
use Rattle.promises.proofs.Back.{graph-refused, graph-within_lem, graph-done}
use Rattle.promises.proofs.returned.graph_back.Goals as goal
use Rattle.promises.proofs.returned.graph_back.Goals.{Start}

-- what every `Graph` of the code has
machine : (c : Start) → Machine c.args.g
machine c =
    let small : (i : ℕ) → get_or c.args.g.relations i 0 < 2 ^ word =
    λ i. let f : Fits w64 (get_or c.args.g.relations i 0) = search rules in f.fits in
    record {
      events = those-mem _ (search rules);
      executed = those-mem _ (search rules);
      pending = those-mem _ (search rules);
      included = those-mem _ (search rules);
      enabled = those-mem _ (search rules);
      many = search rules;
      rows = λ r a. table-whole _ r a small;
    }

pub returns-then-not-is_done-clause-value : goal.returns-then-not-is_done-clause-value
returns-then-not-is_done-clause-value c = (graph-refused _ _ _ _ _ c.write-written.ensures.value c.write-written.ensures.out_after c.is_done.ensures c.if-not-is_done.true _ c.empty.ensures).0

pub slice_bounds-read-end : goal.slice_bounds-read-end
slice_bounds-read-end c = search (graph-within_lem, rules)

pub returns-clause-value : goal.returns-clause-value
returns-clause-value c = (graph-done _ _ _ _ _ c.write-written.ensures.value c.write-written.ensures.out_after c.is_done.ensures c.if-not-is_done.false (machine (goal.at.returns-clause-value c).Start) _ c.read.ensures).0

use Prim.Native.Nat.{◌≤◌}
use Rattle.sets.specs.Tables.{table_at}
use Rattle.sets.proofs.Ways.{passed}
use Rattle.engine.specs.Relations.{relation_count}
use Rattle.engine.specs.Judged.{rows_within}
use Rattle.engine.proofs.judge.relations_within.Given as goal

abbrev pub invariant-loop-kind : goal.invariant-loop-kind
invariant-loop-kind l = (l.kind ≤ relation_count) × passed (λ k. rows_within l.events (table_at l.relations k)) l.kind

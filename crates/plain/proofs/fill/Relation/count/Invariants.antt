use Prim.Native.Nat.{◌≤◌}
use mathlib.Core.Path.{◌≡◌}
use lib.ListN.{length}
use Rattle.plain.specs.Filling.{relation_at, questions, pairs_below}
use Rattle.plain.proofs.fill.Relation.count.Given as goal

abbrev pub invariant-loop-k : goal.invariant-loop-k
invariant-loop-k l = (l.k ≤ questions) × (l.n ≤ l.k) × (l.n ≡ length (pairs_below l.k (relation_at l.self.relations.now l.self.kind)))

use Prim.Native.Nat.{◌≤◌}
use mathlib.Core.Path.{◌≡◌}
use lib.ListN.{length}
use Rattle.plain.specs.Filling.{relation_at, questions, pairs_below, put_down}
use Rattle.plain.proofs.fill.Relation.put_pairs.Given as goal

abbrev pub invariant-loop-k : goal.invariant-loop-k
invariant-loop-k l = (l.k ≤ questions)
    × (length l.memory ≡ length l.initial.memory)
    × (l.n ≡ length (pairs_below l.k (relation_at l.self.relations.now l.self.kind)))
    × (l.memory ≡ put_down (pairs_below l.k (relation_at l.self.relations.now l.self.kind)) l.initial.memory)

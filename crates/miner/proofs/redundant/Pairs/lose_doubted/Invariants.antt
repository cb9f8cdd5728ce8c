use Rattle.sets.specs.Tests.{◌and◌}
use Rattle.sets.specs.Members.{mem}
use Rattle.sets.specs.Rows.{in_row}
use Rattle.miner.proofs.Losing.{Lost, own}
use Rattle.miner.proofs.redundant.Pairs.lose_doubted.Given as goal

abbrev pub invariant-loop-a : goal.invariant-loop-a
invariant-loop-a l = Lost (own (λ a x. mem l.self.to x and in_row l.doubts a x)) l.initial.left l.initial.a-iterator.rest l.a-iterator.rest l.left

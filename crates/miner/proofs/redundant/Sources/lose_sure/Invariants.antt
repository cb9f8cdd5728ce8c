use Rattle.sets.specs.Tests.{◌and◌, non}
use Rattle.sets.specs.Members.{mem}
use Rattle.sets.specs.Tables.{table_at}
use Rattle.tally.specs.Tallies.{before_table}
use Rattle.miner.specs.Facts.{doubted}
use Rattle.miner.proofs.Losing.{Lost, own}
use Rattle.miner.proofs.redundant.Sources.lose_sure.Given as goal

abbrev pub invariant-loop-a : goal.invariant-loop-a
invariant-loop-a l = Lost (own (λ a x. mem l.pairs.to x and non (doubted (table_at l.self.tally.now before_table) (table_at l.self.held.now 2) l.later a x))) l.initial.left l.initial.a-iterator.rest l.a-iterator.rest l.left

use Prim.Native.Nat.{◌-◌}
use Rattle.sets.specs.Members.{width}
use Rattle.engine.specs.Relations.{in_tables}
use Rattle.finish.proofs.Searching.{Tried, at}
use Rattle.finish.proofs.search.Search.+first_way.Given as goal

-- the steps left
abbrev pub decreases-first_way : goal.decreases-first_way
decreases-first_way l = l.left

abbrev pub invariant-loop-open : goal.invariant-loop-open
invariant-loop-open l = Tried l.self.events (in_tables l.self.relations.now) l.fn.s (l.left - 1) l.open

abbrev pub decreases-loop-open : goal.decreases-loop-open
decreases-loop-open l = width - at l.open

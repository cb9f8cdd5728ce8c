use Rattle.engine.specs.Relations.{in_tables}
use Rattle.finish.proofs.Searching.{Asked}
use Rattle.finish.proofs.search.Search.open_from.Given as goal

abbrev pub invariant-loop-a : goal.invariant-loop-a
invariant-loop-a l = Asked l.self.events (in_tables l.self.relations.now) l.fn.s l.initial.a-iterator.rest l.a-iterator.rest

use Rattle.engine.specs.Relations.{in_tables}
use Rattle.finish.specs.Ways.{can_finish}
use Rattle.finish.proofs.Searching.{NoneBelow}
use Rattle.finish.proofs.search.Search.shortest.Given as goal

abbrev pub invariant-loop-steps : goal.invariant-loop-steps
invariant-loop-steps l = NoneBelow (λ n. can_finish l.self.events (in_tables l.self.relations.now) n l.fn.s) l.steps

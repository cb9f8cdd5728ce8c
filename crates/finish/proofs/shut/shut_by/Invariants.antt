use mathlib.Core.Path.{◌≡◌}
use lib.ListN.{drop}
use Rattle.engine.specs.Relations.{in_tables}
use Rattle.finish.specs.Shut.{nothing, shut_from}
use Rattle.finish.proofs.shut.shut_by.Given as goal

abbrev pub invariant-loop-e : goal.invariant-loop-e
invariant-loop-e l = shut_from (in_tables l.relations) l.a.0 l.last.0 (drop l.e-index l.trace) ≡ shut_from (in_tables l.relations) l.a.0 nothing l.trace

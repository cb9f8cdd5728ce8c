use mathlib.Core.Path.{◌≡◌}
use lib.ListN.{drop}
use Rattle.engine.specs.Few.{gains_for}
use Rattle.engine.specs.Relations.{in_tables}
use Rattle.engine.specs.Replay.{replay_from}
use Rattle.engine.proofs.Narrow.{Holds, form_of}
use Rattle.engine.proofs.replay.walk_form.Given as goal

abbrev pub invariant-loop-i : goal.invariant-loop-i
invariant-loop-i g l =
    Holds (form_of g.row.WIDE) l.s
    × (replay_from l.events (gains_for (form_of g.row.WIDE) (in_tables l.relations)) l.s l.i (drop l.i l.trace)
    ≡ replay_from l.events (gains_for (form_of g.row.WIDE) (in_tables l.relations)) l.initial.s 0 l.trace)

use Prim.Native.Nat.{◌^◌, ◌≤◌, ◌<◌}
use mathlib.Core.Path.{◌≡◌}
use lib.ListN.{length, drop}
use Rattle.engine.specs.Replay.{replay_from}
use Rattle.plain.specs.Graphs.{plain_held, plain_relations}
use Rattle.plain.proofs.replay.run.Given as goal

-- that a length is a machine's number stands here too: from the turn's end it is too far for `search`
abbrev pub invariant-loop-i : goal.invariant-loop-i
invariant-loop-i l = (l.i ≤ length l.trace)
    × (replay_from l.g.head.events (plain_relations (plain_held l.g)) l.s l.i (drop l.i l.trace)
    ≡ replay_from l.g.head.events (plain_relations (plain_held l.g)) l.initial.s 0 l.trace)
    × (length l.trace < 2 ^ 64)

use mathlib.Core.Path.{◌≡◌}
use Rattle.marks.specs.Replays.{replay_byte, part_replay}
use Rattle.marks.proofs.Replaying.{bytes_put}
use Rattle.marks.proofs.replays.Replaying.put.Given as goal

abbrev pub invariant-loop-k : goal.invariant-loop-k
invariant-loop-k l = l.out ≡ bytes_put (λ a. replay_byte (part_replay l.self.head l.self.relations.now l.self.log.now a)) l.k l.initial.out

use Rattle.tally.proofs.LookBack.{LookedBlocks}
use Rattle.tally.proofs.look_back.Past.pass_blocks.Given as goal

abbrev pub invariant-loop-j : goal.invariant-loop-j
invariant-loop-j l = LookedBlocks l.self.places.now l.e.0 l.initial.left l.left l.j

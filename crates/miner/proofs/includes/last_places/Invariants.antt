use mathlib.Core.Path.{◌≡◌}
use Prim.Native.Nat.{◌≤◌}
use lib.ListN.{length, drop}
use Rattle.tally.proofs.Turns.{past_at, seen_in}
use Rattle.miner.specs.Facts.{places_from}
use Rattle.miner.proofs.includes.last_places.Given as goal

abbrev pub invariant-loop-i : goal.invariant-loop-i
invariant-loop-i l = (l.i ≤ length l.trace) × (l.all ≡ seen_in (past_at l.trace l.i)) × (places_from l.last l.i (drop l.i l.trace) ≡ places_from l.initial.last 0 l.trace)

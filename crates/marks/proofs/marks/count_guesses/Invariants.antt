use mathlib.Core.Path.{◌≡◌}
use lib.ListN.{length}
use Rattle.marks.specs.Labels.{says_yes}
use Rattle.marks.specs.Counts.{counts_of}
use Rattle.marks.proofs.marks.count_guesses.Given as goal

abbrev pub invariant-loop-guess : goal.invariant-loop-guess
invariant-loop-guess l = l.counts ≡ counts_of (length l.yielded) (says_yes l.guesses) (says_yes l.labels)

use mathlib.Core.Path.{◌≡◌}
use Rattle.marks.specs.Labels.{says_yes}
use Rattle.marks.specs.Counts.{counts_of}
use Rattle.marks.specs.Marks.{is_yes}
use Rattle.marks.specs.Replays.{part_replay}
use Rattle.marks.proofs.marks.count_verdicts.Given as goal

abbrev pub invariant-loop-k : goal.invariant-loop-k
invariant-loop-k l = l.counts ≡ counts_of l.k (λ a. is_yes (part_replay l.replaying.head l.replaying.relations.now l.replaying.log.now a)) (says_yes l.labels)

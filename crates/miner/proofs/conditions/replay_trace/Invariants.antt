use denote.Param.{number}
use Rattle.miner.specs.contracts.conditions.replay_trace.{WIDE-type}
use mathlib.Core.Path.{◌≡◌}
use Rattle.sets.specs.Tests.{◌and◌}
use Rattle.sets.specs.Members.{mem, those}
use Rattle.sets.specs.Tables.{table_at}
use Rattle.sets.specs.declared.set.Set.{Set}
use Rattle.tally.specs.Passes.{reaches}
use Rattle.miner.proofs.Replaying.{Replayed}
use Rattle.miner.proofs.conditions.replay_trace.Given as goal

abbrev pub invariant-loop-n : goal.invariant-loop-n
invariant-loop-n g l = (events : Set) → l.initial.included ≡ those (λ x. reaches (WIDE-type (number g.row.WIDE)) x and mem events x)
    → Replayed (WIDE-type (number g.row.WIDE)) l.trace events (table_at l.held 2) (table_at l.held 3) l.initial.waiting.first l.initial.waiting.unmet l.waiting.first l.waiting.unmet l.seen l.included l.n-index

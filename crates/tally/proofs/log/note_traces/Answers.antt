use borrow.Author.Rules.{rules}
use Rattle.tally.specs.Tallies.{noted_for}
use Rattle.tally.proofs.Walks.{events-end, through-end}
use Rattle.tally.proofs.log.note_traces.Invariants.{start, turn}
use Rattle.tally.proofs.log.note_traces.Goals as goal

pub loop-k-init : goal.loop-k-init
loop-k-init g c = search (start, rules)

pub loop-k-preserved : goal.loop-k-preserved
loop-k-preserved g c = search (turn, rules)

pub returns-clause-value : goal.returns-clause-value
returns-clause-value g c = let inv = c.loop-k.invariant in let over = c.loop-k-test.false in
    events-end _ _ _ _ _ _ inv.a-set over inv.events-are

pub returns-clause-tally_after : goal.returns-clause-tally_after
returns-clause-tally_after g c = let inv = c.loop-k.invariant in let over = c.loop-k-test.false in
    through-end (noted_for _) _ _ _ _ _ over inv.left

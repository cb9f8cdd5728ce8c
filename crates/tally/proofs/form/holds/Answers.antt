use Rattle.sets.specs.Tests.{◌or◌}
use Rattle.tally.specs.Passes.{reaches}
use Rattle.tally.proofs.form.holds.Goals as goal

pub returns-then-wide : goal.returns-then-wide
unfolding reaches ◌or◌
returns-then-wide c = rw c.if-wide.true

pub returns : goal.returns
unfolding reaches ◌or◌
returns c = rw c.if-wide.false

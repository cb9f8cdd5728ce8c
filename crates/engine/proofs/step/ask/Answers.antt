use borrow.Author.Rules.{rules}
use Rattle.sets.proofs.Ways.{choice, was_not}
use Rattle.engine.specs.Steps.{enabled}
use Rattle.engine.proofs.Stepping.{waits-by, blocker-by}
use Rattle.engine.proofs.step.ask.Goals as goal

pub returns-then-not-has : goal.returns-then-not-has
unfolding enabled
returns-then-not-has c = search (choice, rules)

pub returns-then-not-has-2 : goal.returns-then-not-has-2
unfolding enabled
returns-then-not-has-2 c = search (choice, rules)

pub returns-then-not-is_empty : goal.returns-then-not-is_empty
unfolding enabled
returns-then-not-is_empty c =
    let w = was_not _ _ (waits-by c.args.relations.now c.args.s c.args.a.0 _ _ c.blocking-sources.ensures c.is_empty.ensures) c.if-not-is_empty.true in
    search (choice, w, blocker-by, rules)

pub returns : goal.returns
unfolding enabled
returns c = search (choice, waits-by, rules)

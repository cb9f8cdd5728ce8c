use Rattle.sets.proofs.Ways.{choice}
use Rattle.engine.specs.Steps.{enabled}
use Rattle.plain.proofs.Stepping.{waiting-for}
use Rattle.plain.specs.Graphs.{plain_held, plain_relations}
use borrow.Author.Rules.{rules}
use Rattle.plain.proofs.step.ask.Goals as goal

pub returns-then-not-has : goal.returns-then-not-has
returns-then-not-has c = unfold enabled in search (choice, rules)

pub returns-then-not-has-2 : goal.returns-then-not-has-2
returns-then-not-has-2 c = unfold enabled in search (choice, rules)

pub returns-in-Some : goal.returns-in-Some
returns-in-Some c =
    waiting-for c.args.g.now.head.events (plain_relations (plain_held c.args.g.now)) c.args.s c.args.a.0 c.in-Some.least
    (search (choice, rules)) (search (choice, rules)) c.in-Some.ensures.0 c.in-Some.ensures.1

pub returns-in-None : goal.returns-in-None
returns-in-None c = unfold enabled in search (choice, rules)

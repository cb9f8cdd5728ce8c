use borrow.Author.Rules.{rules}
use Rattle.finish.proofs.Searching.{open-start, open-turn, open-found, open-none}
use Rattle.finish.proofs.search.Search.open_from.Goals as goal

pub loop-a-init : goal.loop-a-init
loop-a-init c = search (open-start, rules)

pub returns-then-is_done : goal.returns-then-is_done
returns-then-is_done c =
    open-found _ _ _ _ _ _ _ _ _ c.loop-a.invariant c.in-Some.ensures.steps c.ask.ensures c.is_done.ensures c.if-is_done.true _ _ _ c.below.ensures (cc)

pub loop-a-preserved : goal.loop-a-preserved
loop-a-preserved c = open-turn _ _ _ _ _ _ _ _ _ c.loop-a.invariant c.in-Some.ensures.steps c.ask.ensures c.is_done.ensures c.if-is_done.false

pub returns : goal.returns
returns c = open-none _ _ _ _ _ c.loop-a.invariant c.in-None.ensures.steps.0 _ _ _ c.below.ensures (cc)

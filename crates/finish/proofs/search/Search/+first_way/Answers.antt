use borrow.Author.Rules.{rules}
use mathlib.Core.Path.{sym, ◌∙◌}
use native.Mathlib.Omega.{arith}
use Rattle.finish.proofs.Searching.{searching, way-found, way-turn}
use Rattle.finish.proofs.search.Search.+first_way.Goals as goal

pub returns-then-left-eq0 : goal.returns-then-left-eq0
returns-then-left-eq0 t c = search (searching, rules)

pub loop-open-init : goal.loop-open-init
loop-open-init t c = search (searching, rules)

pub overflow_add-a : goal.overflow_add-a
overflow_add-a t c = omega (arith, (c.loop-open.invariant.may _ c.in-Some.is).0)

pub returns-in-Some-first_way : goal.returns-in-Some-first_way
returns-in-Some-first_way t c =
    way-found _ _ _ _ c.if-left-eq0.false _ c.loop-open.invariant _ _ _ _ c.in-Some.is c.next.ensures c.in-Some-first_way.ensures c.ahead.ensures

pub loop-open-smaller : goal.loop-open-smaller
loop-open-smaller t c = search (searching, rules)

pub loop-open-preserved : goal.loop-open-preserved
loop-open-preserved t c =
    way-turn _ _ _ _ _ _ c.candidates-live.ensures c.args.self.turned _ _ _ _ c.loop-open.invariant c.in-Some.is c.next.ensures
    (sym c.in_default-first_way.is ∙ c.first_way.ensures) c.open_from-open-in-Some.ensures

pub returns : goal.returns
returns t c = search (searching, rules)

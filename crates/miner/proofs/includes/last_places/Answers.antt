use mathlib.Core.Path.{refl}
use borrow.Author.Rules.{rules}
use Rattle.tally.proofs.Turns.{seen_none, seen_next, seen_all}
use Rattle.miner.proofs.After.{places-next, places-end}
use Rattle.miner.proofs.includes.last_places.Goals as goal

pub loop-i-init : goal.loop-i-init
loop-i-init c = (search rules, seen_none, refl)

pub loop-i-preserved : goal.loop-i-preserved
loop-i-preserved c = let v = c.loop-i.invariant in (
  search rules,
  seen_next _ _ c.loop-i-test.true _ v.1 _ c.and_then-all.ensures,
  places-next _ _ _ _ v.2 _ c.loop-i-test.true c.put_place.ensures,
)

pub returns-clause-all : goal.returns-clause-all
returns-clause-all c = let v = c.loop-i.invariant in seen_all _ _ _ c.loop-i-test.false v.1

pub returns-clause-places : goal.returns-clause-places
returns-clause-places c = let v = c.loop-i.invariant in places-end _ _ _ _ v.2 c.loop-i-test.false

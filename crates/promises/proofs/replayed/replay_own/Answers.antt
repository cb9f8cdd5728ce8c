use native.Mathlib.Omega.{arith}
use borrow.Author.Rules.{rules}
use Rattle.promises.proofs.Own.{own-refused, own-within, own-done}
use Rattle.promises.proofs.replayed.replay_own.Goals as goal

pub returns-then-not-is_done : goal.returns-then-not-is_done
returns-then-not-is_done c = own-refused _ _ _ _ c.find_trace-found.ensures c.is_done.ensures _ c.if-not-is_done.true

pub overflow_add-end : goal.overflow_add-end
overflow_add-end c = omega (arith, own-within _ _ _ _ c.find_trace-found.ensures c.is_done.ensures c.if-not-is_done.false)

pub slice_bounds-replay-end : goal.slice_bounds-replay-end
slice_bounds-replay-end c = search (own-within, rules)

pub returns : goal.returns
returns c = own-done _ _ _ _ c.find_trace-found.ensures c.is_done.ensures c.if-not-is_done.false _ _ _ c.mine-mined.ensures c.replay.ensures

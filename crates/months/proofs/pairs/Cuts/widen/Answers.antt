use Rattle.months.proofs.Cuts.{widen-some, widen_none, kept-wide}
use Rattle.months.proofs.pairs.Cuts.widen.Goals as goal

pub invariant_of-self : goal.invariant_of-self
invariant_of-self c = let s = c.args.self.now in record {
  counted = s.counted;
  kept = kept-wide _ _ _ _ _ s.kept (widen-some _ _ _ _ _ c.if-self-gt0.true c.one.ensures c.join.ensures);
}

pub returns-then-self-gt0-clause-now_gaps : goal.returns-then-self-gt0-clause-now_gaps
returns-then-self-gt0-clause-now_gaps c = widen-some _ _ _ _ _ c.if-self-gt0.true c.one.ensures c.join.ensures

pub returns-else-self-gt0-clause-now_gaps : goal.returns-else-self-gt0-clause-now_gaps
returns-else-self-gt0-clause-now_gaps c = widen_none _ _ _ c.if-self-gt0.false

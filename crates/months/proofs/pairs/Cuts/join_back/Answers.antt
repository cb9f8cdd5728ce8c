use Rattle.months.proofs.Cuts.{back-turn, back_end}
use Rattle.months.proofs.pairs.Cuts.join_back.Goals as goal

pub loop-j-preserved : goal.loop-j-preserved
loop-j-preserved c = let s = c.args.self.now in
    back-turn c.args.tally.now c.args.s.0 s.firsts s.gaps s.seen.count c.requires s.kept _ _ _ _ _ _ c.loop-j-test.true c.loop-j.auto.j
    c.loop-j.invariant c.gap.ensures c.union-since.ensures c.join_pair.ensures

pub returns : goal.returns
returns c = let s = c.args.self.now in
    back_end c.args.tally.now c.args.s.0 s.firsts s.gaps s.seen.count c.requires s.kept _ _ _ c.loop-j-test.false c.loop-j.invariant

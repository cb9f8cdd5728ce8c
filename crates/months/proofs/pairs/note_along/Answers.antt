use Prim.Native.Nat.{ℕ}
use borrow.Author.Rules.{rules}
use lib.ListN.{replicate, length-replicate}
use Rattle.months.specs.Layout.{tally_width}
use Rattle.months.proofs.Cuts.{kept-none}
use Rattle.months.proofs.Along.{along-start, along-turn, along-end}
use Rattle.months.proofs.pairs.note_along.Goals as goal

pub invariant_of-cuts : goal.invariant_of-cuts
invariant_of-cuts c = let none = kept-none (replicate tally_width 0) _ (length-replicate {A = ℕ} tally_width 0) c.empty.ensures in record {
  counted = none.0;
  kept = none.1;
}

pub loop-i-init : goal.loop-i-init
loop-i-init c = along-start _ _ _ _ (length-replicate {A = ℕ} tally_width 0) c.empty.ensures

pub loop-i-preserved : goal.loop-i-preserved
loop-i-preserved c = let got = c.note.ensures in
    along-turn c.loop-i.invariant c.loop-i-test.true c.args.last.now c.requires _ _ _ _ (search rules) c.join_last.ensures
    got.now_gaps got.now_seen got.now_firsts

pub returns : goal.returns
returns c = along-end _ _ _ _ _ _ _ c.loop-i.invariant c.loop-i-test.false

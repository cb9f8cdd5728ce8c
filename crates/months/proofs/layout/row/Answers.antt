use mir.Val.{Fits}
use mir.Syntax.{w8}
use borrow.Author.Rules.{rules}
use lib.ListN.{get_or}
use Rattle.months.proofs.FromTally.{at-whole}
use Rattle.months.proofs.layout.row.Goals as goal

pub returns-clause-result_value : goal.returns-clause-result_value
returns-clause-result_value c = let tally = c.args.tally.now in
    let is = c.set_at.ensures in
    at-whole tally (λ k. let f : Fits w8 (get_or tally k 0) = search (c.shared_slice_known-1.given, rules) in f.fits) _ _ is

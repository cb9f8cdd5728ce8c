use borrow.Author.Rules.{rules}
use Rattle.steps.proofs.Reduction.{all-fit, fits-wide}
use Rattle.steps.proofs.reduce.reduced.Goals as goal

pub reduced_in-requires : goal.reduced_in-requires
reduced_in-requires c =
    all-fit _ _ _ _ _ (search rules) c.union_of-all.ensures c.below.ensures c.is_within.ensures c.if-is_within.true

pub reduced_in-requires-else-is_within : goal.reduced_in-requires-else-is_within
reduced_in-requires-else-is_within c a l m = fits-wide _ _

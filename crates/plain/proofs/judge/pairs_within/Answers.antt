use mathlib.Core.Path.{◌∙◌}
use Rattle.std.proofs.Common.{tests}
use Rattle.std.proofs.lemmas.Iterator.{YieldsList-from_slice}
use Rattle.std.proofs.lemmas.Iterator.Search.{all_from_yields_List}
use borrow.Author.Rules.{rules}
use Rattle.plain.specs.Pairs.{pair_within}
use Rattle.plain.proofs.PairLaws.{all-in}
use Rattle.plain.proofs.judge.pairs_within.Goals as goal

pub returns : goal.returns
returns c =
    all_from_yields_List (pair_within c.args.events) _ _ _ c.all.ensures.ran (YieldsList-from_slice c.args.pairs.now cc)
    (λ x b q k. search (rules, tests))
    ∙ all-in c.args.pairs.now (pair_within c.args.events)

use borrow.Author.Rules.{rules}
use Rattle.sets.proofs.TableLaws.{alone}
use Rattle.sets.proofs.rows.join.Goals as goal

pub returns : goal.returns
returns c = search (alone, rules)

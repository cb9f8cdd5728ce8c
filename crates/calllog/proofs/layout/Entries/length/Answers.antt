use Rattle.calllog.specs.Layout.{bodies_start, length_at}
use borrow.Author.Rules.{rules}
use Rattle.calllog.proofs.layout.Entries.length.Goals as goal

pub present_number-requires : goal.present_number-requires
present_number-requires c = unfold bodies_start in search (rules)

pub returns : goal.returns
unfolding length_at
returns c = c.present_number.ensures

use borrow.Author.Rules.{rules}
use Rattle.report.proofs.WholeLaws.{refused-room, refused-put}
use Rattle.report.proofs.writer.put_refused.Goals as goal

pub named-requires : goal.named-requires
named-requires c = search (refused-room, rules)

pub returns : goal.returns
returns c = let page = c.new-page.ensures in refused-put _ _ _ c.number.ensures _ page.bytes page.place _ _ c.named.ensures (search rules)

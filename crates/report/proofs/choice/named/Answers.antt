use borrow.Author.Rules.{rules}
use Rattle.report.proofs.Choosing.{choosing}
use Rattle.report.proofs.choice.named.Goals as goal

pub returns-then-is_word : goal.returns-then-is_word
returns-then-is_word c = search (choosing, rules)

pub returns-then-is_word-2 : goal.returns-then-is_word-2
returns-then-is_word-2 c = search (choosing, rules)

pub returns : goal.returns
returns c = search (choosing, rules)

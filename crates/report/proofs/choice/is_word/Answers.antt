use borrow.Author.Rules.{rules}
use Rattle.report.proofs.Choosing.{choosing}
use Rattle.report.proofs.choice.is_word.Goals as goal

pub returns-then-bytes-word : goal.returns-then-bytes-word
returns-then-bytes-word c = search (choosing, rules)

pub returns : goal.returns
returns c = search (choosing, rules)

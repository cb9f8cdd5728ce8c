use borrow.Author.Rules.{rules}
use Rattle.sets.proofs.Ways.{choice}
use Rattle.engine.proofs.Judging.{ask-stops, ask-goes}
use Rattle.desk.proofs.requests.ask_closing.Goals as goal

pub returns-then-not-is_accepting : goal.returns-then-not-is_accepting
returns-then-not-is_accepting c = search (ask-goes, choice, rules)

pub returns : goal.returns
returns c = search (ask-stops, ask-goes, choice, rules)

use Rattle.engine.proofs.Running.{verdict-refused, verdict-done}
use Rattle.plain.specs.Results.{plain_accepting_of}
use borrow.Author.Rules.{rules}
use Rattle.plain.proofs.step.accepting.Goals as goal

pub returns-then-not-is_done : goal.returns-then-not-is_done
returns-then-not-is_done c = unfold plain_accepting_of in search (verdict-refused, rules)

pub returns : goal.returns
returns c = unfold plain_accepting_of in search (verdict-done, rules)

use borrow.Author.Rules.{rules}
use Rattle.sets.proofs.Ways.{choice}
use Rattle.engine.specs.Judged.{found}
use Rattle.engine.proofs.judge.found.Goals as goal

pub returns-then-above : goal.returns-then-above
returns-then-above c = unfold found in search (choice, rules)

pub returns-then-not-inside : goal.returns-then-not-inside
returns-then-not-inside c = unfold found in search (choice, rules)

pub returns-then-not-truthful : goal.returns-then-not-truthful
returns-then-not-truthful c = unfold found in search (choice, rules)

pub returns : goal.returns
returns c = unfold found in search (choice, rules)

use borrow.Author.Rules.{rules}
use Rattle.engine.proofs.Running.{walk_end}
use Rattle.engine.proofs.Narrow.{form-cut, form-turn, form-stop, form_from}
use Rattle.engine.proofs.replay.walk_form.Goals as goal

pub loop-i-init : goal.loop-i-init
loop-i-init g c = search (form-cut, rules)

pub returns-then-not-is_done : goal.returns-then-not-is_done
returns-then-not-is_done g c = search (form_from, form-stop, rules)

pub loop-i-preserved : goal.loop-i-preserved
loop-i-preserved g c = search (form-cut, form-turn, rules)

pub returns : goal.returns
returns g c = search (form_from, walk_end, rules)

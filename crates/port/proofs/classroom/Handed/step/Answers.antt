use Rattle.port.specs.Classroom.{plain_step_of}
use Rattle.port.proofs.Handing.{handing}
use borrow.Author.Rules.{rules}
use Rattle.port.proofs.classroom.Handed.step.Goals as goal

pub returns-then-not-is_done : goal.returns-then-not-is_done
returns-then-not-is_done c = unfold plain_step_of in search (handing, rules)

pub returns : goal.returns
returns c = unfold plain_step_of in search (handing, rules)

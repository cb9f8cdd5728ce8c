use Rattle.engine.proofs.Running.{step-refused, step-done, stepped-as}
use Rattle.plain.specs.Results.{plain_stepped_of}
use Rattle.plain.proofs.Stepping.{marked-alone}
use borrow.Author.Rules.{rules}
use Rattle.plain.proofs.step.step.Goals as goal

pub returns-then-not-is_done : goal.returns-then-not-is_done
returns-then-not-is_done c = unfold plain_stepped_of in search (stepped-as, step-refused, rules)

pub returns : goal.returns
unfolding plain_stepped_of
returns c = let moved = c in
    let test = moved in
    let done = test in
    stepped-as _ _ _ _ _ _ _ done.enabled-answer.ensures
    (step-done _ _ done.is_done.ensures _ _ _ _ _ _ test.if-not-is_done.false
    moved.next-state.ensures (marked-alone _ _ _ _ _ _ _ c.marked-marking.ensures))
